-- Which nodes' values are taken from what is seen alone, and what that asks of it.
use Rattle.std.specs.Prelude.{◌≡◌, Bool, true, false, [], Option, Some, None, option_and_then, IsTrue}
use Rattle.frp_base.specs.declared.name.Name.{Name}
use Rattle.frp_base.specs.declared.val.Val.{Val, out-Val}
use Rattle.frp_base.specs.declared.val.Val.TheOpen.{Val-F}
use Rattle.frp_base.specs.declared.val.Val.TheOpen as o
use Rattle.frp_graph.specs.declared.trace.Node.{Node}
use Rattle.frp_graph.specs.declared.prog.Prog.{Prog}
use Rattle.frp_graph.specs.declared.shape.Shape.{Shape}
use Rattle.frp_graph.specs.declared.shape.Shape.TheVariants.{Sink, Never, Constant, Map, Filter, Filteropt, Merge, Snapshot, Split, Updates, Value, Loop, Hold, Mapc, Apply, Switchs, Switchc, Execute}
use Rattle.frp_graph.specs.Trace.{Sight, post_in}
use Rattle.frp_graph.specs.Roles.{Role, Input, Splits, Executes, Follows, role}
use Rattle.frp_graph.specs.Equations.{row}

-- a node whose value what is seen decides: no input, and no execute, whose value its instance decides
abbrev pub is_fired : Role → Bool
is_fired Input = false
is_fired (Splits s) = true
is_fired (Executes e) = false
is_fired Follows = true

abbrev pub IsFiredAt : Sight → Name → Type 0
IsFiredAt w n = (x : Node) → w.node n ≡ Some x → IsTrue (is_fired (role x.shape))

-- the row of the node of a name, where it is live
abbrev pub row_at : Prog → Sight → Name → Option Val
row_at prog w n = option_and_then (λ x. row prog [] w x x.shape) (w.node n)

-- What the functions of the crate promise each other.

-- whether a value refers to a node
abbrev pub refers_in : Val-F Val → Bool
refers_in (o.Stream n) = true
refers_in (o.Cell n) = true
refers_in (o.Int z) = false
refers_in (o.Bool b) = false
refers_in (o.Text t) = false
refers_in (o.Pair a b) = false
refers_in (o.List xs) = false
refers_in (o.Fun f xs) = false
refers_in o.Absent = false
refers_in (o.Present a) = false

abbrev pub is_reference : Option Val → Bool
is_reference None = false
is_reference (Some v) = refers_in (out-Val v)

-- whether what a switch's cell holds is there and refers to a node
abbrev pub has_target : Sight → Shape → Bool
has_target w (Switchs c) = is_reference (w.pre c)
has_target w (Switchc c) = is_reference (post_in w c)
has_target w Sink = true
has_target w Never = true
has_target w Constant = true
has_target w (Map f s) = true
has_target w (Filter f s) = true
has_target w (Filteropt s) = true
has_target w (Merge f a b) = true
has_target w (Snapshot f s c) = true
has_target w (Split s) = true
has_target w (Updates c) = true
has_target w (Value c) = true
has_target w (Loop to) = true
has_target w (Hold s) = true
has_target w (Mapc f c) = true
has_target w (Apply cf ca) = true
has_target w (Execute s template kept) = true
