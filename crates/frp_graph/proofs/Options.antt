-- What may be there: where a step from it gives something, it is there.
use Rattle.std.proofs.Common.{◌≡◌, ℕ, zero, suc, Bool, true, false, List, [], ◌∷◌, Option, Some, None, refl, sym}
use Rattle.std.specs.Prelude.{is_some, slice_get, slice_index_or, option_map, option_and_then, if◌then◌else◌}
use Rattle.std.proofs.lemmas.Option.{same_Some, option_and_then_some}

pub some_is : {A : Type 0} (x y : A) → Some x ≡ Some y → y ≡ x
some_is x y e = sym (same_Some x y e)

pub some_there : {A : Type 0} (o : Option A) → is_some o ≡ true → (x : A) × (o ≡ Some x)
some_there None h = absurd cc
some_there (Some x) h = (x, refl)

pub mapped_some : {A B : Type 0} (f : A → B) (o : Option A) (y : B) → option_map f o ≡ Some y → (x : A) × (o ≡ Some x) × (f x ≡ y)
mapped_some f None y h = absurd cc
mapped_some f (Some x) y h = (x, refl, same_Some (f x) y h)

pub then_some : {A B : Type 0} (f : A → Option B) (o : Option A) (y : B) → option_and_then f o ≡ Some y → (x : A) × (o ≡ Some x) × (f x ≡ Some y)
then_some f o y h = option_and_then_some f o y h (λ x e r. (x, e, r))

pub test_some : {A : Type 0} (b : Bool) (o : Option A) (y : A) → (if b then o else None) ≡ Some y → (b ≡ true) × (o ≡ Some y)
test_some true o y h = (refl, h)
test_some false o y h = absurd cc

-- the item of a number, where there is one
pub index_is : {A : Type 0} (xs : List A) (i : ℕ) (d x : A) → slice_get xs i ≡ Some x → slice_index_or xs i d ≡ x
index_is [] i d x h = absurd cc
index_is (z ∷ xs) zero d x h = same_Some z x h
index_is (z ∷ xs) (suc i) d x h = index_is xs i d x h

pub then_is : {A B : Type 0} (f : A → Option B) (o : Option A) (x : A) (y : B) → o ≡ Some x → f x ≡ Some y
    → option_and_then f o ≡ Some y
then_is f o x y e h = rw e h
