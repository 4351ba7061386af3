use Rattle.std.proofs.Common.{◌≡◌, ◌≤◌, take}
use Rattle.frp_graph.specs.Births.{size_of}
use Rattle.frp_make.proofs.body.size.Given as goal

abbrev pub invariant-loop-line : goal.invariant-loop-line
invariant-loop-line l = record {
  sum : l.size ≡ size_of (take l.line-index l.lines);
  few : l.size ≤ l.line-index;
}
