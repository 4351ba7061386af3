-- Values of their node's type, and graphs whose nodes are of the types that their shapes allow.
use Rattle.std.specs.Prelude.{◌≡◌, Bool, false, true, not, ◌&&◌, ◌||◌, List, [], ◌∷◌, ◌++◌, Option, Some, None, IsTrue, is_some, slice_get}
use Rattle.frp_base.specs.declared.name.Name.{Name}
use Rattle.frp_base.specs.declared.ty.Ty.{Ty}
use Rattle.frp_base.specs.declared.ty.Ty.TheVariants as t
use Rattle.frp_base.specs.declared.val.Val.{Val}
use Rattle.frp_expr.specs.Typing.{◌>>=◌, type_in}
use Rattle.frp_graph.specs.declared.trace.Node.{Node}
use Rattle.frp_graph.specs.declared.trace.Fact.{Fact}
use Rattle.frp_graph.specs.declared.prog.Prog.{Prog}
use Rattle.frp_graph.specs.declared.shape.Lam.{Lam}
use Rattle.frp_graph.specs.declared.shape.Shape.{Shape}
use Rattle.frp_graph.specs.declared.shape.Shape.TheVariants.{Sink, Never, Constant, Map, Filter, Filteropt, Merge, Snapshot, Split, Updates, Value, Loop, Hold, Mapc, Apply, Switchs, Switchc, Execute}
use Rattle.frp_graph.specs.Trace.{Sight, Each}
use Rattle.frp_expr.specs.Types.{is_type}
use Rattle.frp_graph.specs.TypedProg.{IsTypedProg, Pattern, patterns, sigs, is_stream, is_cell}
use Rattle.frp_graph.specs.Values.{type_among, are_values, fits_node}

-- Values of their node's type.

-- what is seen of a node, where something is, is a value that the node holds; and it is there for cells alone
abbrev pub seen_fits : Prog → Sight → Node → Option Val → Bool
seen_fits prog w x None = true
seen_fits prog w x (Some v) = fits_node prog w.node x.ty v

abbrev pub fits_cell : Prog → Sight → Node → Option Val → Bool
fits_cell prog w x None = true
fits_cell prog w x (Some v) = is_cell x.ty && fits_node prog w.node x.ty v

-- a cell has a first value of its type, a stream has none
abbrev pub has_typed_first : Prog → Sight → Node → Bool
has_typed_first prog w x = fits_cell prog w x x.first && (not (is_cell x.ty) || is_some x.first)

-- what fires is live, and has a value of its node's type
abbrev pub is_typed_fact : Prog → Sight → Fact → Bool
is_typed_fact prog w f = is_of_node (w.node f.node) where
  is_of_node : Option Node → Bool
  is_of_node None = false
  is_of_node (Some x) = fits_node prog w.node x.ty f.value

-- Well-formed graphs.

-- The expression is one of the program, and gives this type for arguments of these types; its kept values are of the types
-- that it is typed over.
pub record Returns (prog : Prog) (w : Sight) (f : Lam) (args : List Ty) (x : Ty) : Type 0 where
  pub kept : List Ty
  pub kept_fit : IsTrue (are_values prog w.node f.kept kept)
  pub typed : (slice_get prog.codes f.code >>= λ e. type_in (sigs prog) e (kept ++ args)) ≡ Some x

-- A node of this type has a shape that allows it: the nodes that the shape names are live and of the types that it asks for,
-- and its expression or template is the program's, with kept values of the kept types.
module _ (prog : Prog) (w : Sight) where
  -- the node of this name is of this type
  abbrev pub IsOf : Name → Ty → Type 0
  IsOf n x = type_among w.node n ≡ Some x

  abbrev pub Allows : Ty → Shape → Type 0
  Allows x Sink = IsTrue (is_stream x && is_type x)
  Allows x Never = IsTrue (is_stream x && is_type x)
  Allows x Constant = IsTrue (is_cell x)
  Allows x (Map f s) = (a b : Ty) × IsOf s (t.Stream a) × Returns prog w f (a ∷ []) b × (x ≡ t.Stream b)
  Allows x (Mapc f c) = (a b : Ty) × IsOf c (t.Cell a) × Returns prog w f (a ∷ []) b × (x ≡ t.Cell b)
  Allows x (Filter f s) = (a : Ty) × IsOf s x × Returns prog w f (a ∷ []) t.Bool × (x ≡ t.Stream a)
  Allows x (Filteropt s) = (a : Ty) × IsOf s (t.Stream (t.Option a)) × (x ≡ t.Stream a)
  Allows x (Merge f r s) = (a : Ty) × IsOf r x × IsOf s x × Returns prog w f (a ∷ a ∷ []) a × (x ≡ t.Stream a)
  Allows x (Snapshot f s c) = (a b d : Ty) × IsOf s (t.Stream a) × IsOf c (t.Cell b) × Returns prog w f (a ∷ b ∷ []) d × (x ≡ t.Stream d)
  Allows x (Split s) = (a : Ty) × IsOf s (t.Stream (t.List a)) × (x ≡ t.Stream a)
  Allows x (Updates c) = (a : Ty) × IsOf c (t.Cell a) × (x ≡ t.Stream a)
  Allows x (Value c) = (a : Ty) × IsOf c (t.Cell a) × (x ≡ t.Stream a)
  Allows x (Loop to) = IsTrue (is_stream x || is_cell x) × IsOf to x
  Allows x (Hold s) = (a : Ty) × IsOf s (t.Stream a) × (x ≡ t.Cell a)
  Allows x (Apply cf ca) = (a b : Ty) × IsOf cf (t.Cell (t.Fun a b)) × IsOf ca (t.Cell a) × (x ≡ t.Cell b)
  Allows x (Switchs c) = IsOf c (t.Cell x) × IsTrue (is_stream x)
  Allows x (Switchc c) = IsOf c (t.Cell x) × IsTrue (is_cell x)
  Allows x (Execute s k kept) =
      (d : Pattern) × (slice_get (patterns prog) k ≡ Some d) × IsOf s (t.Stream d.param) × IsTrue (are_values prog w.node kept d.kept) × (x ≡ t.Stream d.gives)

-- The graph that is seen is well formed. A cell may have no first value, as those on a closed chain of Birth have none.
pub record IsWellFormed (prog : Prog) (w : Sight) : Type 0 where
  pub program : IsTypedProg prog
  pub shapes : Each w (λ x. Allows prog w x.ty x.shape)
  pub named : (n : Name) (x : Node) → w.node n ≡ Some x → x.name ≡ n
  pub firsts : Each w (λ x. IsTrue (fits_cell prog w x x.first))
  pub befores : Each w (λ x. IsTrue (fits_cell prog w x (w.pre x.name)))
  pub occurrences : Each w (λ x. IsTrue (seen_fits prog w x (w.occ x.name)))
  pub aboves : Each w (λ x. IsTrue (seen_fits prog w x (w.above x.name)))
  pub only_live : (n : Name) (v : Val) → w.occ n ≡ Some v → IsTrue (is_some (w.node n))

-- each live cell has a first value, and so a value before
pub record HasFirsts (w : Sight) : Type 0 where
  pub first : Each w (λ x. IsTrue (is_cell x.ty) → IsTrue (is_some x.first))
  pub before : Each w (λ x. IsTrue (is_cell x.ty) → IsTrue (is_some (w.pre x.name)))
