-- Places that are gone through, of which those that pass a test are put in.
use Rattle.std.proofs.Common.{◌≡◌, ℕ, Bool, true, false, List, [], ◌∷◌, ◌+◌, Some, take, zero, suc, refl, sym, ap, ◌∙◌, subst, arith}
use Rattle.std.specs.Prelude.{◌==◌, ◌||◌, ◌&&◌, slice_get, if◌then◌else◌}
use Rattle.std.specs.List.{AllByRecursion}
use Rattle.std.specs.Bool.{Decides}
use Rattle.std.specs.Cmp.{unsigned_Decides}
use Rattle.frp_base.specs.declared.place.Place.{Place}
use Rattle.frp_store.specs.Places.{ArePlaces, has, with_place, numbers}
use Rattle.frp_store.proofs.Rising.{take_last, number_got}
use Rattle.frp_store.proofs.Rewiring.{retested, with_tested}
use Rattle.frp_store.proofs.Keeping.{has_pushed}

pub tried_more : (ns : List ℕ) (i j q : ℕ) (test : ℕ → Bool) (ps new : List ℕ) (b : Bool) → j ≡ i + 1 → slice_get ns i ≡ Some q → b ≡ test q → new ≡ (if b then with_place q ps else ps)
    → ArePlaces ps (λ r. has (take i ns) r && test r) → ArePlaces new (λ r. has (take j ns) r && test r)
tried_more ns i j q test ps new b n g e w k =
    subst (λ l. ArePlaces l (λ r. has (take j ns) r && test r)) (sym w) (subst (λ m. ArePlaces (if b then with_place q ps else ps) (λ r. has (take m ns) r && test r)) (sym next)
    (retested _ _ _ (λ r. by r (q == r) (unsigned_Decides q r) ∙ ap (λ c. c && test r) (sym (ap (λ l. has l r) (take_last i ns q g) ∙ has_pushed (take i ns) q r)))
    (with_tested b q ps (λ r. has (take i ns) r && test r) k)))
  where
    next : j ≡ suc i
    next = omega arith

    here : (b h : Bool) → (b && true) || (h && b) ≡ (h || true) && b
    here true true = refl
    here true false = refl
    here false true = refl
    here false false = refl

    there : (b h l : Bool) → (b && false) || (h && l) ≡ (h || false) && l
    there true true l = refl
    there true false l = refl
    there false true l = refl
    there false false l = refl

    by : (r : ℕ) (c : Bool) → Decides c (q ≡ r) → (b && c) || (has (take i ns) r && test r) ≡ (has (take i ns) r || c) && test r
    by r true d =
        let same : b ≡ test r = e ∙ ap test (d.0 refl) in
        ap (λ l. (b && true) || (has (take i ns) r && l)) (sym same) ∙ here b (has (take i ns) r) ∙ ap (λ l. (has (take i ns) r || true) && l) same
    by r false d = there b (has (take i ns) r) (test r)

pub tried_inside : (P : ℕ → Type 0) (places : List Place) (ns : List ℕ) (i : ℕ) (p : Place) → numbers places ≡ ns → slice_get places i ≡ Some p → AllByRecursion P ns → P p.0
tried_inside P places ns i p e g a = at (numbers places) i p.0 (number_got places i p g) (subst (AllByRecursion P) (sym e) a) where
  at : (xs : List ℕ) (i q : ℕ) → slice_get xs i ≡ Some q → AllByRecursion P xs → P q
  at [] i q g a = absurd cc
  at (x ∷ xs) zero q g a = let s : x ≡ q = cc in subst P s a.0
  at (x ∷ xs) (suc i) q g a = at xs i q g a.1
