use Rattle.std.proofs.Common.{◌≡◌, ◌++◌, drop}
use Rattle.frp_report.specs.Report.{send_lines}
use Rattle.frp_report.proofs.text.show_sends.Given as goal

-- what is written so far and the lines of the sends that are left are the whole
abbrev pub invariant-loop-fact : goal.invariant-loop-fact
invariant-loop-fact l = l.out ++ send_lines (drop l.fact-index l.sends) ≡ l.fn.out ++ send_lines l.fn.sends
