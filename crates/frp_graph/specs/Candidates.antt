-- Candidates: the nodes that may be taken at a moment.
use Rattle.std.specs.Prelude.{Bool, ◌&&◌, ◌||◌, List, is_some, filter}
use Rattle.std.specs.List.{list_any}
use Rattle.frp_graph.specs.declared.trace.Node.{Node}
use Rattle.frp_graph.specs.declared.trace.Sent.{Sent}
use Rattle.frp_graph.specs.declared.evidence.Phase.TheVariants.{During}
use Rattle.frp_graph.specs.Trace.{Sight}
use Rattle.frp_graph.specs.Roles.{is_sink_shape, split_source}
use Rattle.frp_graph.specs.Sends.{is_sent_to}
use Rattle.frp_graph.specs.Links.{is_new, links}

-- a sink that is sent to, or a split that has an item to give
abbrev pub is_started : List Sent → Sight → Node → Bool
is_started sends w x =
    (is_sink_shape x.shape && list_any (is_sent_to w.time x.name) sends) || (is_some (split_source x.shape) && is_some (w.occ x.name))

-- A live node is a candidate where it was born, is started, or has a link of During to a node that fires.
abbrev pub is_candidate : List Sent → Sight → Node → Bool
is_candidate sends w x = is_new w x.name || is_started sends w x || list_any (λ n. is_some (w.occ n)) (links w During x)

abbrev pub candidates : List Sent → Sight → List Node → List Node
candidates sends w nodes = filter (is_candidate sends w) nodes
