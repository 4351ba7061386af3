use Rattle.std.proofs.Common.{◌≡◌, take}
use Rattle.frp_rank.proofs.plan.copied.Given as goal

abbrev pub invariant-loop-place : goal.invariant-loop-place
invariant-loop-place l = l.copy.items ≡ take l.place l.ranks.items
