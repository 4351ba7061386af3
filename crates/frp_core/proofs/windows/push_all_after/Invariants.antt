use Rattle.std.proofs.Common.{◌≡◌, ◌++◌, drop}
use Rattle.frp_history.specs.Windows.{items_after}
use Rattle.frp_core.proofs.windows.push_all_after.Given as goal

abbrev pub invariant-loop-moment : goal.invariant-loop-moment
invariant-loop-moment l = l.items ++ items_after l.start l.name (drop l.moment-index l.trace) ≡ l.fn.items ++ items_after l.start l.name l.fn.trace
