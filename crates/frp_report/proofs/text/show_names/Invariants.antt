use Rattle.std.proofs.Common.{◌≡◌, ◌++◌, drop}
use Rattle.frp_report.specs.Report.{names_text}
use Rattle.frp_report.proofs.text.show_names.Given as goal

abbrev pub invariant-loop-name : goal.invariant-loop-name
invariant-loop-name l = l.out ++ names_text (drop l.name-index l.names) ≡ l.fn.out ++ names_text l.fn.names
