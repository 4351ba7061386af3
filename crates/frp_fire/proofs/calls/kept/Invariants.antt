use Rattle.std.proofs.Common.{◌≡◌, take}
use Rattle.frp_fire.proofs.calls.kept.Given as goal

abbrev pub invariant-loop-value : goal.invariant-loop-value
invariant-loop-value l = l.kept ≡ take l.value-index l.values
