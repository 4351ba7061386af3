use Rattle.std.proofs.Common.{◌≡◌, ◌++◌, drop}
use Rattle.frp_report.specs.Report.{born_lines}
use Rattle.frp_report.proofs.text.show_births.Given as goal

-- what is written so far and the lines of the nodes that are left are the whole
abbrev pub invariant-loop-node : goal.invariant-loop-node
invariant-loop-node l = l.out ++ born_lines (drop l.node-index l.nodes) ≡ l.fn.out ++ born_lines l.fn.nodes
