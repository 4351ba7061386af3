use Rattle.std.proofs.Common.{◌<◌, ◌≤◌, ℕ, length, get_or}
use Rattle.frp_rank.specs.Chain.{numbers}
use Rattle.frp_rank.proofs.chain.number_of_least.Given as goal

abbrev pub invariant-loop-i : goal.invariant-loop-i
invariant-loop-i l = record {
  inside : l.best < length l.places;
  least : (k : ℕ) → k < l.i → get_or (numbers l.places) l.best 0 ≤ get_or (numbers l.places) k 0;
}
