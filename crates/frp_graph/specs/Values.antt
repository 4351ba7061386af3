-- Which values are of a type among the live nodes of a program.
use Rattle.std.specs.Prelude.{Bool, false, List, Option, Some, None, option_map}
use Rattle.frp_base.specs.declared.name.Name.{Name}
use Rattle.frp_base.specs.declared.ty.Ty.{Ty, out-Ty}
use Rattle.frp_base.specs.declared.ty.Ty.TheOpen.{Ty-F}
use Rattle.frp_base.specs.declared.ty.Ty.TheOpen as t
use Rattle.frp_base.specs.declared.val.Val.{Val}
use Rattle.frp_expr.specs.Values.{is_of, are_of}
use Rattle.frp_graph.specs.declared.prog.Prog.{Prog}
use Rattle.frp_graph.specs.declared.trace.Node.{Node}
use Rattle.frp_graph.specs.TypedProg.{sigs}

-- where the live nodes are found by name: the type of the node of a name
abbrev pub type_among : (Name → Option Node) → Name → Option Ty
type_among node n = option_map (λ x. x.ty) (node n)

-- whether a value is of a type among these nodes, and whether values are of types, one by one
abbrev pub is_value : Prog → (Name → Option Node) → Val → Ty → Bool
is_value prog node = is_of (type_among node) (sigs prog)

abbrev pub are_values : Prog → (Name → Option Node) → List Val → List Ty → Bool
are_values prog node = are_of (type_among node) (sigs prog)

-- what a node of this type holds: what a stream or a cell has
abbrev pub held_in : Ty-F Ty → Option Ty
held_in (t.Stream a) = Some a
held_in (t.Cell a) = Some a
held_in t.Int = None
held_in t.Bool = None
held_in t.Text = None
held_in (t.Pair a b) = None
held_in (t.List a) = None
held_in (t.Fun a b) = None
held_in (t.Option a) = None

-- whether a value is one that a node of this type holds
abbrev pub is_of_held : Prog → (Name → Option Node) → Val → Option Ty → Bool
is_of_held prog node v None = false
is_of_held prog node v (Some a) = is_value prog node v a

abbrev pub fits_node : Prog → (Name → Option Node) → Ty → Val → Bool
fits_node prog node x v = is_of_held prog node v (held_in (out-Ty x))
