use Rattle.std.proofs.Common.{◌≡◌, ◌++◌, drop}
use Rattle.frp_report.specs.Report.{fact_lines}
use Rattle.frp_report.proofs.text.show_facts.Given as goal

-- what is written so far and the lines of the facts that are left are the whole
abbrev pub invariant-loop-fact : goal.invariant-loop-fact
invariant-loop-fact l = l.out ++ fact_lines (drop l.fact-index l.facts) ≡ l.fn.out ++ fact_lines l.fn.facts
