use Rattle.std.proofs.Common.{◌≡◌, ◌+◌, ◌++◌, drop}
use Rattle.frp_report.specs.Report.{entry_lines}
use Rattle.frp_report.proofs.text.show_entries.Given as goal

-- what is written so far and the lines of the entries that are left are the whole
abbrev pub invariant-loop-i : goal.invariant-loop-i
invariant-loop-i l = l.out ++ entry_lines (l.i + 1) (drop l.i l.entries) ≡ l.fn.out ++ entry_lines 1 l.fn.entries
