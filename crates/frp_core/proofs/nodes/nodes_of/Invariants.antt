-- the nodes so far with those of the lines that are left are all of them, and the lines that are left are ready
use Rattle.std.proofs.Common.{◌≡◌, [], ◌++◌, drop}
use Rattle.frp_core.specs.Nodes.{line_nodes, AreReady}
use Rattle.frp_core.proofs.nodes.nodes_of.Given as goal

abbrev pub invariant-loop-line : goal.invariant-loop-line
invariant-loop-line l = record {
  made : l.nodes ++ line_nodes l.refs (drop l.line-index l.lines) ≡ line_nodes [] l.fn.lines;
  ready : AreReady l.refs (drop l.line-index l.lines);
}
