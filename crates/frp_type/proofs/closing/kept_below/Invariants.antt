use Rattle.std.proofs.Common.{◌≡◌, ◌++◌, drop, filter, nat_lt}
use Rattle.frp_type.proofs.closing.kept_below.Given as goal

abbrev pub invariant-loop-i : goal.invariant-loop-i
invariant-loop-i l = l.below ++ filter (λ i. nat_lt i l.n) (drop l.i-index l.used) ≡ filter (λ i. nat_lt i l.n) l.used
