use Rattle.std.proofs.Common.{◌≡◌, ◌+◌, drop}
use Rattle.frp_type.specs.Closed.{position}
use Rattle.frp_type.proofs.closing.position.Given as goal

abbrev pub invariant-loop-at : goal.invariant-loop-at
invariant-loop-at l = l.at + position l.i (drop l.at l.kept) ≡ position l.i l.kept
