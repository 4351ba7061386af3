use Rattle.std.proofs.Common.{◌≡◌, ◌≤◌, ◌++◌, length, drop}
use Rattle.frp_listen.specs.Listeners.{happened}
use Rattle.frp_listen.proofs.passing.push_all.Given as goal

abbrev pub invariant-loop-moment : goal.invariant-loop-moment
invariant-loop-moment l = record {
  items : l.items ++ happened l.node (drop l.moment-index l.moments) ≡ l.fn.items ++ happened l.fn.node l.fn.moments;
  few : length l.items ≤ l.max;
}
