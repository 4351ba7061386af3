-- Sends: what is sent to a sink at a time, and which sends a graph can take.
use Rattle.std.specs.Prelude.{ℕ, Bool, false, ◌&&◌, List, [], ◌∷◌, map, filter, Option, Some, None, option_map, IsTrue, if◌then◌else◌}
use Rattle.std.specs.List.{AllByRecursion}
use Rattle.frp_base.specs.declared.name.Name.{Name}
use Rattle.frp_base.specs.declared.time.Time.{Time}
use Rattle.frp_base.specs.declared.val.Val.{Val}
use Rattle.frp_base.specs.Time.{time_eq}
use Rattle.frp_base.specs.Name.{name_eq, declared_name}
use Rattle.frp_graph.specs.declared.trace.Node.{Node}
use Rattle.frp_graph.specs.declared.trace.Moment.{Moment}
use Rattle.frp_graph.specs.declared.trace.Sent.{Sent}
use Rattle.frp_graph.specs.declared.prog.Joint.{Joint}
use Rattle.frp_graph.specs.declared.prog.Prog.{Prog}
use Rattle.frp_graph.specs.Trace.{live, node_in, moments_before}
use Rattle.frp_graph.specs.Roles.{is_sink_shape}
use Rattle.frp_graph.specs.Applied.{call}
use Rattle.frp_graph.specs.Values.{fits_node}

-- the number of the combining expression of a sink, where it has one
abbrev pub join_in : List Joint → Name → Option ℕ
join_in [] n = None
join_in (j ∷ js) n = if name_eq (declared_name j.item) n then Some j.code else join_in js n

abbrev pub join_of : Prog → Name → Option ℕ
join_of prog n = join_in prog.joins n

-- whether a send is to this sink at a time, and the values of those that are, in order
abbrev pub is_sent_to : Time → Name → Sent → Bool
is_sent_to t n s = time_eq t (s.place ∷ []) && name_eq s.sink n

abbrev pub sent_values : List Sent → Time → Name → List Val
sent_values sends t n = map (λ s. s.value) (filter (is_sent_to t n) sends)

-- an expression of the program, applied from the left: to the first two values, then to what that gives and the next
abbrev pub folded : Prog → ℕ → Val → List Val → Val
folded prog code v [] = v
folded prog code v (w ∷ vs) = folded prog code (call prog (record { code = code; kept = [] }) (v ∷ w ∷ [])) vs

-- what a sink that is sent these values has: the one, or the several as its combining expression makes them one
abbrev pub combined : Prog → Option ℕ → List Val → Option Val
combined prog join [] = None
combined prog join (v ∷ []) = Some v
combined prog join (v ∷ w ∷ vs) = option_map (λ code. folded prog code v (w ∷ vs)) join

-- the value that was sent to a sink at a time
abbrev pub sent_in : Prog → List Sent → Time → Name → Option Val
sent_in prog sends t n = combined prog (join_of prog n) (sent_values sends t n)

-- whether this value can be sent to a node: it is a sink, and the value is of its type
abbrev pub takes : Prog → (Name → Option Node) → Val → Option Node → Bool
takes prog node v None = false
takes prog node v (Some x) = is_sink_shape x.shape && fits_node prog node x.ty v

-- the nodes that are live before place k, by name
abbrev pub node_before : List Moment → ℕ → Name → Option Node
node_before trace k = node_in (live (moments_before (k ∷ []) trace))

-- Each send is to a sink that was live before its place, of a value of its type among the nodes that were. (A value that
-- named a node which its own transaction makes could be that of any node, and so decide its own births.)
abbrev pub AreSendable : Prog → List Sent → List Moment → Type 0
AreSendable prog sends trace =
    AllByRecursion (λ s. IsTrue (takes prog (node_before trace s.place) s.value (node_before trace s.place s.sink))) sends
