use Rattle.std.proofs.Common.{◌≡◌, ◌≤◌, ◌-◌, length, drop}
use Rattle.frp_listen.specs.Listeners.{happened}
use Rattle.frp_listen.proofs.passing.passed_by.Given as goal

abbrev pub invariant-loop-passed : goal.invariant-loop-passed
invariant-loop-passed l = record {
  reached : l.passed ≤ length l.trace;
  left : drop l.more (happened l.node (drop l.passed l.trace)) ≡ drop l.count (happened l.node (drop l.from l.trace));
  few : l.more ≤ length (happened l.node (drop l.passed l.trace));
}

abbrev pub decreases-loop-passed : goal.decreases-loop-passed
decreases-loop-passed l = length l.trace - l.passed
