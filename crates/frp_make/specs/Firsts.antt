-- First values of nodes that are born, over those that are found so far.
use Rattle.std.specs.Prelude.{◌≡◌, ℕ, List, [], Option, Some, None, IsTrue, is_some, slice_get, option_map, option_and_then, unwrap_or, if◌then◌else◌, ⊤}
use Rattle.frp_base.specs.declared.name.Name.{Name}
use Rattle.frp_base.specs.declared.val.Val.{Val}
use Rattle.frp_graph.specs.declared.trace.Node.{Node}
use Rattle.frp_graph.specs.declared.shape.Shape.{Shape}
use Rattle.frp_graph.specs.declared.shape.Shape.TheVariants.{Sink, Never, Constant, Map, Filter, Filteropt, Merge, Snapshot, Split, Updates, Value, Loop, Hold, Mapc, Apply, Switchs, Switchc, Execute}
use Rattle.frp_graph.specs.Trace.{Sight, or_else, node_first}
use Rattle.frp_graph.specs.Applied.{target}
use Rattle.frp_make.specs.Lines.{is_reference}
use Rattle.frp_make.specs.Making.{with_born}

-- what is found by name is the place of the node of the name
pub record IsIndex (nodes : List Node) (find : Name → Option ℕ) : Type 0 where
  pub found : (n : Name) (p : ℕ) → find n ≡ Some p → (x : Node) × (slice_get nodes p ≡ Some x) × (x.name ≡ n)
  pub all : (p : ℕ) (x : Node) → slice_get nodes p ≡ Some x → find x.name ≡ Some p

-- no two of the nodes have one name
abbrev pub AreApart : List Node → Type 0
AreApart nodes = (p q : ℕ) (x y : Node) → slice_get nodes p ≡ Some x → slice_get nodes q ≡ Some y → x.name ≡ y.name → p ≡ q

-- the first value, and the name, of the node at a place
abbrev pub first_at : List Node → ℕ → Option Val
first_at nodes p = option_and_then node_first (slice_get nodes p)

abbrev pub name_at : List Node → ℕ → Name
name_at nodes p = unwrap_or (option_map (λ x. x.name) (slice_get nodes p)) []

-- the place of the node of a name, where it is one of these and has no first value
abbrev pub missing_in : (Name → Option ℕ) → List Node → Name → Option ℕ
missing_in find nodes n = option_and_then (λ p. if is_some (first_at nodes p) then None else Some p) (find n)

-- the place of the node for whose first value that of a node of this shape waits
abbrev pub awaited_in : Sight → (Name → Option ℕ) → List Node → Shape → Option ℕ
awaited_in w find nodes (Mapc f c) = missing_in find nodes c
awaited_in w find nodes (Apply cf ca) = or_else (missing_in find nodes cf) (missing_in find nodes ca)
awaited_in w find nodes (Loop to) = missing_in find nodes to
awaited_in w find nodes (Switchc c) = for_inner ((with_born w nodes).pre c) where
  for_inner : Option Val → Option ℕ
  for_inner None = missing_in find nodes c
  for_inner (Some d) = missing_in find nodes (target d)
awaited_in w find nodes Sink = None
awaited_in w find nodes Never = None
awaited_in w find nodes Constant = None
awaited_in w find nodes (Map f s) = None
awaited_in w find nodes (Filter f s) = None
awaited_in w find nodes (Filteropt s) = None
awaited_in w find nodes (Merge f a b) = None
awaited_in w find nodes (Snapshot f s c) = None
awaited_in w find nodes (Split s) = None
awaited_in w find nodes (Updates c) = None
awaited_in w find nodes (Value c) = None
awaited_in w find nodes (Hold s) = None
awaited_in w find nodes (Switchs c) = None
awaited_in w find nodes (Execute s template kept) = None

-- an older cell has a value before
abbrev pub IsRead : Sight → (Name → Option ℕ) → Name → Type 0
IsRead w find c = find c ≡ None → IsTrue (is_some (w.pre c))

-- the older cells that the first value of a node of this shape reads have values before
abbrev pub IsReadable : Sight → (Name → Option ℕ) → List Node → Shape → Type 0
IsReadable w find nodes (Mapc f c) = IsRead w find c
IsReadable w find nodes (Apply cf ca) = IsRead w find cf × IsRead w find ca
IsReadable w find nodes (Switchc c) = IsRead w find c × ((d : Val) → (with_born w nodes).pre c ≡ Some d → IsTrue (is_reference d) × IsRead w find (target d))
IsReadable w find nodes (Loop to) = ⊤
IsReadable w find nodes Sink = ⊤
IsReadable w find nodes Never = ⊤
IsReadable w find nodes Constant = ⊤
IsReadable w find nodes (Map f s) = ⊤
IsReadable w find nodes (Filter f s) = ⊤
IsReadable w find nodes (Filteropt s) = ⊤
IsReadable w find nodes (Merge f a b) = ⊤
IsReadable w find nodes (Snapshot f s c) = ⊤
IsReadable w find nodes (Split s) = ⊤
IsReadable w find nodes (Updates c) = ⊤
IsReadable w find nodes (Value c) = ⊤
IsReadable w find nodes (Hold s) = ⊤
IsReadable w find nodes (Switchs c) = ⊤
IsReadable w find nodes (Execute s template kept) = ⊤
