-- Totals over the views, and the words.
use Rattle.std.proofs.Common.{◌≡◌, ◌≢◌, ℕ, zero, suc, ◌+◌, ◌%◌, ◌^◌, ◌<◌, ◌≤◌, List, [], ◌∷◌, ◌++◌, set, refl, sym, ap, arith, Option}
use mathlib.Core.Option.{some, some-injective, some-ne-none}
use lib.ListN.{get_elem?}
use Rattle.frp_gate.specs.declared.view.PassView.{PassView}
use Rattle.frp_gate.specs.Views.{total}

module _ {M : Type 0} where
  pub total_set : (f : Option (PassView M) → ℕ) (vs : List (Option (PassView M))) (i : ℕ) (v w : Option (PassView M))
      → get_elem? vs i ≡ some v → total f (set vs i w) + f v ≡ total f vs + f w
  total_set f [] i v w e = absurd (some-ne-none v (sym e))
  total_set f (x ∷ xs) zero v w e = let same = ap f (some-injective x v e) in omega arith
  total_set f (x ∷ xs) (suc i) v w e = let t = total_set f xs i v w e in omega arith

  pub total_more : (f : Option (PassView M) → ℕ) (vs : List (Option (PassView M))) (w : Option (PassView M))
      → total f (vs ++ w ∷ []) ≡ total f vs + f w
  total_more f [] w = omega arith
  total_more f (x ∷ xs) w = let t = total_more f xs w in omega arith

  pub total_at : (f : Option (PassView M) → ℕ) (vs : List (Option (PassView M))) (i : ℕ) (v : Option (PassView M))
      → get_elem? vs i ≡ some v → f v ≤ total f vs
  total_at f [] i v e = absurd (some-ne-none v (sym e))
  total_at f (x ∷ xs) zero v e = let same = ap f (some-injective x v e) in omega arith
  total_at f (x ∷ xs) (suc i) v e = let t = total_at f xs i v e in omega arith

  -- where one view has all, another has none
  pub total_other : (f : Option (PassView M) → ℕ) (vs : List (Option (PassView M))) (i j : ℕ)
      (v w : Option (PassView M)) → j ≢ i → get_elem? vs i ≡ some v → get_elem? vs j ≡ some w → f v + f w ≤ total f vs
  total_other f [] i j v w apart e h = absurd (some-ne-none v (sym e))
  total_other f (x ∷ xs) zero zero v w apart e h = absurd (apart refl)
  total_other f (x ∷ xs) zero (suc j) v w apart e h = let same = ap f (some-injective x v e) in
      let t = total_at f xs j w h in omega arith
  total_other f (x ∷ xs) (suc i) zero v w apart e h = let same = ap f (some-injective x w h) in
      let t = total_at f xs i v e in omega arith
  total_other f (x ∷ xs) (suc i)
      (suc j) v w apart e h = let t = total_other f xs i j v w (λ s. apart (ap suc s)) e h in omega arith

  -- no view has more tickets than parts
  pub total_le : (f g : Option (PassView M) → ℕ) (vs : List (Option (PassView M)))
      → ((j : ℕ) (v : Option (PassView M)) → get_elem? vs j ≡ some v → f v ≤ g v) → total f vs ≤ total g vs
  total_le f g [] each = omega arith
  total_le f g (x ∷ xs) each = let a = each zero x refl in let t = total_le f g xs (λ j v e. each (suc j) v e) in
      omega arith

-- a word that counts on
pub next_word : (n : ℕ) → (n % 2 ^ 64 + 1) % 2 ^ 64 ≡ (n + 1) % 2 ^ 64
next_word n = omega arith

-- a ticket at or after the one that is served, and less than 2^32 after it, is that one where the words agree
pub same_ticket : (served ticket : ℕ) → served ≤ ticket → ticket < served + 2 ^ 32 → served % 2 ^ 64 ≡ ticket % 2 ^ 64
    → served ≡ ticket
same_ticket served ticket a b e = omega arith
