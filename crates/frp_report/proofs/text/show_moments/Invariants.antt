use Rattle.std.proofs.Common.{◌≡◌, ◌++◌, drop}
use Rattle.frp_report.specs.Report.{moment_lines}
use Rattle.frp_report.proofs.text.show_moments.Given as goal

-- what is written so far and the lines of the moments that are left are the whole
abbrev pub invariant-loop-moment : goal.invariant-loop-moment
invariant-loop-moment l = l.out ++ moment_lines (drop l.moment-index l.trace) ≡ l.fn.out ++ moment_lines l.fn.trace
