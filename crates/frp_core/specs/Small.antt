-- The programs that are run so far: each line makes a node of a shape that is built. What they make: node k is that of item
-- k, and reads earlier nodes only.
use Rattle.std.specs.Prelude.{◌≡◌, ℕ, ◌+◌, ◌<◌, Bool, true, false, List, [], ◌∷◌, IsTrue, ⊤}
use Rattle.std.specs.List.{AllByRecursion, list_all}
use Rattle.frp_base.specs.declared.name.Name.{Name}
use Rattle.frp_base.specs.Name.{declared_name}
use Rattle.frp_graph.specs.declared.prog.Prog.{Prog}
use Rattle.frp_graph.specs.declared.prog.Line3.{Line3}
use Rattle.frp_graph.specs.declared.prog.Line3.TheVariants as line
use Rattle.frp_graph.specs.declared.prog.LineShape.{LineShape}
use Rattle.frp_graph.specs.declared.prog.LineShape.TheVariants as l
use Rattle.frp_graph.specs.declared.shape.Shape.{Shape}
use Rattle.frp_graph.specs.declared.shape.Shape.TheVariants.{Sink, Never, Constant, Map, Filter, Filteropt, Merge, Snapshot, Split, Updates, Value, Loop, Hold, Mapc, Apply, Switchs, Switchc, Execute}
use Rattle.frp_graph.specs.declared.trace.Node.{Node}
use Rattle.frp_graph.specs.Links.{operands}

-- whether a line makes a node of a shape that is built
abbrev pub is_built_shape : LineShape → Bool
is_built_shape l.Sink = true
is_built_shape l.Never = true
is_built_shape (l.Map f s) = true
is_built_shape (l.Filter f s) = true
is_built_shape (l.Hold o s) = true
is_built_shape (l.Constant o) = false
is_built_shape (l.Filteropt s) = false
is_built_shape (l.Merge f r s) = false
is_built_shape (l.Snapshot f s c) = false
is_built_shape (l.Split s) = false
is_built_shape (l.Updates c) = false
is_built_shape (l.Value c) = false
is_built_shape (l.Loop to) = false
is_built_shape (l.Mapc f c) = false
is_built_shape (l.Apply cf ca) = false
is_built_shape (l.Switchs c) = false
is_built_shape (l.Switchc c) = false
is_built_shape (l.Execute s template kept) = false

abbrev pub is_built_line : Line3 → Bool
is_built_line (line.Node ty shape) = is_built_shape shape
is_built_line (line.Get c) = false

-- whether each line of a program does
abbrev pub is_built : Prog → Bool
is_built prog = list_all is_built_line prog.body.lines

-- the name is that of an item before item k
abbrev pub IsEarlier : ℕ → Name → Type 0
IsEarlier k n = (j : ℕ) × ((j < k) × (n ≡ declared_name j))

-- whether a shape is that of such a line's node
abbrev pub is_small_shape : Shape → Bool
is_small_shape Sink = true
is_small_shape Never = true
is_small_shape (Map f s) = true
is_small_shape (Filter f s) = true
is_small_shape (Hold s) = true
is_small_shape Constant = false
is_small_shape (Filteropt s) = false
is_small_shape (Merge f r s) = false
is_small_shape (Snapshot f s c) = false
is_small_shape (Split s) = false
is_small_shape (Updates c) = false
is_small_shape (Value c) = false
is_small_shape (Loop to) = false
is_small_shape (Mapc f c) = false
is_small_shape (Apply cf ca) = false
is_small_shape (Switchs c) = false
is_small_shape (Switchc c) = false
is_small_shape (Execute s template kept) = false

-- the node of item k may have this shape: it is one of those, and each of its operands is an earlier node
abbrev pub IsSmall : ℕ → Shape → Type 0
IsSmall k s = IsTrue (is_small_shape s) × AllByRecursion (IsEarlier k) (operands s)

-- nodes of which the first is that of item k
abbrev pub AreSmallFrom : ℕ → List Node → Type 0
AreSmallFrom k [] = ⊤
AreSmallFrom k (x ∷ xs) = (x.name ≡ declared_name k) × (IsSmall k x.shape) × (AreSmallFrom (k + 1) xs)
