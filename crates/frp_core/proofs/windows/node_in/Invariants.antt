use Rattle.std.proofs.Common.{◌≡◌, drop}
use Rattle.frp_graph.specs.Trace.{node_in}
use Rattle.frp_core.proofs.windows.node_in.Given as goal

abbrev pub invariant-loop-node : goal.invariant-loop-node
invariant-loop-node l = node_in (drop l.node-index l.nodes) l.name ≡ node_in l.fn.nodes l.name
