-- Items of a list by their places, with one of them written.
use Rattle.std.proofs.Common.{◌≡◌, ◌⊎◌, ℕ, zero, suc, ◌<◌, List, [], ◌∷◌, length, set, Some, refl, sym, ap, ◌∙◌, arith, inl, inr}
use Rattle.std.specs.Prelude.{slice_get, IfOk}
use Rattle.std.specs.declared.result.Result.{Result}
use Rattle.std.specs.declared.result.Result.TheVariants.{Ok, Err}
use Rattle.std.proofs.lemmas.Bool.{cases_eq}
use Rattle.std.proofs.lemmas.Option.{same_Some}

module _ {A : Type 0} where
  pub written_same : (xs : List A) (i : ℕ) (y x : A) → slice_get xs i ≡ Some x → slice_get (set xs i y) i ≡ Some y
  written_same [] i y x h = absurd cc
  written_same (z ∷ xs) zero y x h = refl
  written_same (z ∷ xs) (suc i) y x h = written_same xs i y x h

  pub written_other : (xs : List A) (i j : ℕ) (y : A) → (j ≡ i → ⊥) → slice_get (set xs i y) j ≡ slice_get xs j
  written_other [] i j y n = refl
  written_other (z ∷ xs) zero zero y n = absurd (n refl)
  written_other (z ∷ xs) zero (suc j) y n = refl
  written_other (z ∷ xs) (suc i) zero y n = refl
  written_other (z ∷ xs) (suc i) (suc j) y n = written_other xs i j y (λ e. n (ap suc e))

  -- an item of the list that was written is the new one, or one that stood there
  pub written_cases : (xs : List A) (i : ℕ) (x y : A) → slice_get xs i ≡ Some x → (j : ℕ) (z : A) → slice_get (set xs i y) j ≡ Some z
      → ((j ≡ i) × (y ≡ z)) ⊎ ((j ≡ i → ⊥) × (slice_get xs j ≡ Some z))
  written_cases xs i x y h j z e = elim (cases_eq j i) [
    | inl s ↦ inl (s, same_Some y z (sym (written_same xs i y x h) ∙ ap (slice_get (set xs i y)) (sym s) ∙ e))
    | inr n ↦ inr (n, sym (written_other xs i j y n) ∙ e)
  ]

  pub get_inside : (xs : List A) (i : ℕ) (x : A) → slice_get xs i ≡ Some x → i < length xs
  get_inside [] i x h = absurd cc
  get_inside (z ∷ xs) zero x h = omega arith
  get_inside (z ∷ xs) (suc i) x h = let l = get_inside xs i x h in omega arith

  pub get_there : (xs : List A) (i : ℕ) → i < length xs → (x : A) × (slice_get xs i ≡ Some x)
  get_there [] i h = absurd (omega arith)
  get_there (z ∷ xs) zero h = (z, refl)
  get_there (z ∷ xs) (suc i) h = get_there xs i (omega arith)

-- what follows from what holds where a call is done holds there
pub ok_follows : {A E : Type 0} (r : Result A E) (P Q : A → Type 0) → ((x : A) → P x → Q x) → IfOk r P → IfOk r Q
ok_follows (Ok x) P Q f h = f x h
ok_follows (Err e) P Q f h = h
