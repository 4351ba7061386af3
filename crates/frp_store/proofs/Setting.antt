-- An item of a list that is written.
use Rattle.std.proofs.Common.{◌≡◌, ◌⊎◌, ℕ, List, [], ◌∷◌, Some, map, zero, suc, refl, sym, ap, ◌∙◌, inl, inr}
use Rattle.std.specs.Prelude.{slice_get, slice_set}

-- what is read after a write is what was written, or what was there
pub set_cases : {A : Type 0} (xs : List A) (p q : ℕ) (y z : A) → slice_get (slice_set xs p y) q ≡ Some z → ((q ≡ p) × (z ≡ y)) ⊎ (slice_get xs q ≡ Some z)
set_cases [] p q y z e = inr e
set_cases (x ∷ xs) zero zero y z e = inl (refl, cc)
set_cases (x ∷ xs) zero (suc q) y z e = inr e
set_cases (x ∷ xs) (suc p) zero y z e = inr e
set_cases (x ∷ xs) (suc p) (suc q) y z e = elim (set_cases xs p q y z e) [
  | inl h ↦ inl (ap suc h.0, h.1)
  | inr h ↦ inr h
]

pub get_set_same : {A : Type 0} (xs : List A) (p : ℕ) (x y : A) → slice_get xs p ≡ Some x → slice_get (slice_set xs p y) p ≡ Some y
get_set_same [] p x y e = absurd cc
get_set_same (z ∷ xs) zero x y e = refl
get_set_same (z ∷ xs) (suc p) x y e = get_set_same xs p x y e

pub get_set_other : {A : Type 0} (xs : List A) (p q : ℕ) (y : A) → (q ≡ p → ⊥) → slice_get (slice_set xs p y) q ≡ slice_get xs q
get_set_other [] p q y d = refl
get_set_other (x ∷ xs) zero zero y d = absurd (d refl)
get_set_other (x ∷ xs) zero (suc q) y d = refl
get_set_other (x ∷ xs) (suc p) zero y d = refl
get_set_other (x ∷ xs) (suc p) (suc q) y d = get_set_other xs p q y (λ e. d (ap suc e))

-- what a list is mapped to stays where the new item is mapped to what the old one was
pub map_kept : {A B : Type 0} (f : A → B) (xs : List A) (p : ℕ) (x y : A) → slice_get xs p ≡ Some x → f y ≡ f x → map f (slice_set xs p y) ≡ map f xs
map_kept f [] p x y e h = absurd cc
map_kept f (z ∷ xs) zero x y e h = let same : z ≡ x = cc in ap (λ b. b ∷ map f xs) (h ∙ sym (ap f same))
map_kept f (z ∷ xs) (suc p) x y e h = ap (λ bs. f z ∷ bs) (map_kept f xs p x y e h)

pub map_set : {A B : Type 0} (f : A → B) (xs : List A) (p : ℕ) (y : A) → map f (slice_set xs p y) ≡ slice_set (map f xs) p (f y)
map_set f [] p y = refl
map_set f (x ∷ xs) zero y = refl
map_set f (x ∷ xs) (suc p) y = ap (λ bs. f x ∷ bs) (map_set f xs p y)

pub get_map : {A B : Type 0} (f : A → B) (xs : List A) (p : ℕ) (x : A) → slice_get xs p ≡ Some x → slice_get (map f xs) p ≡ Some (f x)
get_map f [] p x e = absurd cc
get_map f (z ∷ xs) zero x e = let same : z ≡ x = cc in ap (λ w. Some (f w)) same
get_map f (z ∷ xs) (suc p) x e = get_map f xs p x e

pub get_map_back : {A B : Type 0} (f : A → B) (xs : List A) (p : ℕ) (b : B) → slice_get (map f xs) p ≡ Some b → (x : A) × (slice_get xs p ≡ Some x) × (f x ≡ b)
get_map_back f [] p b e = absurd cc
get_map_back f (z ∷ xs) zero b e = (z, refl, cc)
get_map_back f (z ∷ xs) (suc p) b e = get_map_back f xs p b e

-- what is there already is written
pub set_same : {A : Type 0} (xs : List A) (p : ℕ) (x : A) → slice_get xs p ≡ Some x → slice_set xs p x ≡ xs
set_same [] p x e = absurd cc
set_same (y ∷ xs) zero x e = let same : y ≡ x = cc in ap (λ z. z ∷ xs) (sym same)
set_same (y ∷ xs) (suc p) x e = ap (λ ys. y ∷ ys) (set_same xs p x e)
