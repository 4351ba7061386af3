use Rattle.std.proofs.Common.{◌≡◌, ◌<◌, ℕ, false, [], length, get_or}
use Rattle.std.specs.Ordering.{is_lt}
use Rattle.frp_base.specs.Name.{name_cmp}
use Rattle.frp_make.proofs.chaining.number_of_least.Given as goal

abbrev pub invariant-loop-i : goal.invariant-loop-i
invariant-loop-i l = record {
  inside : l.best < length l.names;
  least : (k : ℕ) → k < l.i → is_lt (name_cmp (get_or l.names k []) (get_or l.names l.best [])) ≡ false;
}
