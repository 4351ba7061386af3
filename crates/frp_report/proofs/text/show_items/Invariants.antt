use Rattle.std.proofs.Common.{◌≡◌, ◌++◌, drop}
use Rattle.frp_report.specs.Report.{delivered_lines}
use Rattle.frp_report.proofs.text.show_items.Given as goal

-- what is written so far and the lines of the items that are left are the whole
abbrev pub invariant-loop-item : goal.invariant-loop-item
invariant-loop-item l = l.out ++ delivered_lines (drop l.item-index l.items) ≡ l.fn.out ++ delivered_lines l.fn.items
