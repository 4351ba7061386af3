use Rattle.std.proofs.Common.{◌≡◌, ◌++◌, drop}
use Rattle.frp_rank.specs.Plans.{lower_writes, map_index}
use Rattle.frp_rank.specs.Laws.{lower_count}
use Rattle.frp_rank.proofs.plan.renumber.Given as goal

abbrev pub invariant-loop-place : goal.invariant-loop-place
invariant-loop-place l = l.writes.items ++ map_index (λ i r. record { place = i; rank = lower_count l.ranks r }) l.place (drop l.place l.ranks) ≡ lower_writes l.fn.ranks
