use Rattle.std.proofs.Common.{◌≡◌, ◌++◌, drop}
use Rattle.frp_run.specs.Lines.{table}
use Rattle.frp_run.proofs.lines.show_table.Given as goal

abbrev pub invariant-loop-label : goal.invariant-loop-label
invariant-loop-label l = l.out ++ table (drop l.label-index l.labels) ≡ l.fn.out ++ table l.fn.labels
