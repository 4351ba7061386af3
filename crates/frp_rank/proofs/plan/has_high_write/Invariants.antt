use Rattle.std.proofs.Common.{◌≡◌, drop}
use Rattle.frp_rank.specs.Plans.{has_high_write}
use Rattle.frp_rank.proofs.plan.has_high_write.Given as goal

abbrev pub invariant-loop-write : goal.invariant-loop-write
invariant-loop-write l = has_high_write (drop l.write-index l.writes) ≡ has_high_write l.fn.writes
