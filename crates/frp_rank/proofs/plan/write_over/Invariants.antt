use Rattle.std.proofs.Common.{◌≡◌, drop}
use Rattle.frp_rank.specs.Plans.{written}
use Rattle.frp_rank.proofs.plan.write_over.Given as goal

abbrev pub invariant-loop-write : goal.invariant-loop-write
invariant-loop-write l = written l.ranks (drop l.write-index l.writes) ≡ written l.fn.ranks l.fn.writes
