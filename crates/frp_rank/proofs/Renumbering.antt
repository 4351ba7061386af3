-- Ranks that are renumbered keep their order.
use Rattle.std.proofs.Common.{◌≡◌, ℕ, ◌+◌, ◌<◌, ◌≤◌, ◌^◌, Bool, true, false, cond, ltb, List, [], ◌∷◌, length, get_or, suc, zero, refl, sym, ap, ◌∙◌, arith, map, inl, inr}
use Rattle.std.proofs.lemmas.Grind.{common_steps}
use Rattle.std.proofs.lemmas.Bool.Decides.{nat_tests}
use Rattle.std.proofs.lemmas.List.{get_or-map}
use Rattle.std.specs.List.{sum_by}
use Rattle.std.specs.List.Sorted.{IsPermutation}
use Rattle.std.proofs.lemmas.List.Sorted.{sum_by-IsPermutation}
use Rattle.std.proofs.lemmas.Bool.{cases_lt}
use Rattle.std.proofs.lemmas.List.Sums.{sum_by-cons}
use Rattle.frp_rank.specs.Order.{KeepsOrder}
use Rattle.frp_rank.specs.Laws.{lower_count, renumbered, RenumberingKeeps}

-- a higher rank has more below it
lower_count_mono : (ranks : List ℕ) (r s : ℕ) → r ≤ s → lower_count ranks r ≤ lower_count ranks s
lower_count_mono [] r s h = omega arith
lower_count_mono (q ∷ qs) r s h = let e = lower_count_mono qs r s h in grind (arith, nat_tests, e)

pub lower_count_less : (ranks : List ℕ) (i r s : ℕ) → i < length ranks → get_or ranks i 0 ≡ r → r < s → lower_count ranks r < lower_count ranks s
lower_count_less [] i r s h e l = absurd (omega arith)
lower_count_less (q ∷ qs) zero r s h e l = let m = lower_count_mono qs r s (omega arith) in grind (arith, nat_tests, m)
lower_count_less (q ∷ qs) (suc i) r s h e l = let m = lower_count_less qs i r s (omega arith) e l in grind (arith, nat_tests, m)

pub lower_count_le : (ranks : List ℕ) (r : ℕ) → lower_count ranks r ≤ length ranks
lower_count_le [] r = omega arith
lower_count_le (q ∷ qs) r = let e = lower_count_le qs r in grind (arith, nat_tests, e)

pub renumbered_keeps : RenumberingKeeps
renumbered_keeps ranks = record {
  same_length = grind (arith, common_steps);
  below = λ p q hp hq l. rw (get_or-map (lower_count ranks) ranks p 0 0 hp, get_or-map (lower_count ranks) ranks q 0 0 hq) (lower_count_less ranks p _ _ hp refl l);
  equal = λ p q hp hq e. rw (get_or-map (lower_count ranks) ranks p 0 0 hp, get_or-map (lower_count ranks) ranks q 0 0 hq) (ap (lower_count ranks) e);
}

-- In sorted ranks those that are lower stand first.

lower_count_none : (ranks : List ℕ) (r : ℕ) → ((k : ℕ) → k < length ranks → r ≤ get_or ranks k 0) → lower_count ranks r ≡ 0
lower_count_none [] r h = refl
lower_count_none (q ∷ qs) r h = let e = lower_count_none qs r (λ k l. h (suc k) (omega arith)) in let f : r ≤ q = h 0 (omega arith) in grind (arith, nat_tests, e, f)

pub lower_count_split : (ranks : List ℕ) (r i : ℕ) → i ≤ length ranks → ((k : ℕ) → k < i → get_or ranks k 0 < r) → ((k : ℕ) → i ≤ k → k < length ranks → r ≤ get_or ranks k 0) → lower_count ranks r ≡ i
lower_count_split ranks r zero h a b = lower_count_none ranks r (λ k l. b k (omega arith) l)
lower_count_split [] r (suc i) h a b = absurd (omega arith)
lower_count_split (q ∷ qs) r (suc i) h a b =
    let e : lower_count qs r ≡ i = lower_count_split qs r i (omega arith) (λ k l. a (suc k) (omega arith)) (λ k l m. b (suc k) (omega arith) (omega arith)) in
    let f : q < r = a 0 (omega arith) in
    grind (arith, nat_tests, e, f)

lower_count_sum : (ranks : List ℕ) (r : ℕ) → sum_by (λ q. cond (ltb q r) 1 0) ranks ≡ lower_count ranks r
lower_count_sum [] r = refl
lower_count_sum (q ∷ qs) r = let e = lower_count_sum qs r in sum_by-cons (λ q. cond (ltb q r) 1 0) q qs ∙ elim (cases_lt q r) [ inl l ↦ let t : ltb q r ≡ true = grind (arith, nat_tests) in rw t (omega (arith, e)) | inr l ↦ let t : ltb q r ≡ false = grind (arith, nat_tests) in rw t (omega (arith, e)) ]

-- the order in which ranks stand does not count
pub lower_count_permuted : (xs ys : List ℕ) (r : ℕ) → IsPermutation xs ys → lower_count ys r ≡ lower_count xs r
lower_count_permuted xs ys r h = sym (lower_count_sum ys r) ∙ sum_by-IsPermutation (λ q. cond (ltb q r) 1 0) xs ys h ∙ lower_count_sum xs r

pub renumbered_at : (ranks : List ℕ) (p : ℕ) → p < length ranks → get_or (renumbered ranks) p 0 ≡ lower_count ranks (get_or ranks p 0)
renumbered_at ranks p h = get_or-map (lower_count ranks) ranks p 0 0 h
