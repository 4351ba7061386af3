-- Tests: two at once, one of two, one turned round, and what is chosen by one.
use Rattle.std.proofs.Common.{◌≡◌, ◌⊎◌, Bool, true, false, Option, Some, refl, sym, inl, inr}
use Rattle.std.specs.Prelude.{not, ◌&&◌, ◌||◌, if◌then◌else◌}

pub both_true : (a b : Bool) → a && b ≡ true → (a ≡ true) × (b ≡ true)
both_true true b h = (refl, h)
both_true false b h = absurd cc

pub true_both : (a b : Bool) → a ≡ true → b ≡ true → a && b ≡ true
true_both a b p q = rw (p, q) refl

pub and_true : (b : Bool) → b && true ≡ b
and_true true = refl
and_true false = refl

pub and_false : (b : Bool) → b && false ≡ false
and_false true = refl
and_false false = refl

pub either_true : (a b : Bool) → a || b ≡ true → (a ≡ true) ⊎ (b ≡ true)
either_true true b h = inl refl
either_true false b h = inr h

pub or_true : (a : Bool) → a || true ≡ true
or_true true = refl
or_true false = refl

-- one more test keeps what is true
pub or_more : (a b : Bool) → b ≡ true → a || b ≡ true
or_more true b h = refl
or_more false b h = h

pub not_true : (b : Bool) → not b ≡ true → b ≡ false
not_true true h = absurd cc
not_true false h = refl

-- a test is true or false
pub bool_cases : (b : Bool) → (b ≡ true) ⊎ (b ≡ false)
bool_cases true = inl refl
bool_cases false = inr refl

-- what is not true is false
pub is_false : (b : Bool) → (b ≡ true → ⊥) → b ≡ false
is_false true h = absurd (h refl)
is_false false h = refl

-- what is not false is true
pub is_true : (b : Bool) → (b ≡ false → ⊥) → b ≡ true
is_true true h = refl
is_true false h = absurd (h refl)

-- two tests that imply each other are one
pub same_test : (a b : Bool) → (a ≡ true → b ≡ true) → (b ≡ true → a ≡ true) → a ≡ b
same_test true b f g = sym (f refl)
same_test false true f g = g refl
same_test false false f g = refl

-- a choice that gives something gives the one or the other
pub chosen : {A : Type 0} (b : Bool) (x y : A) (r : Option A) → (if b then Some x else r) ≡ Some y → ((b ≡ true) × (x ≡ y)) ⊎ ((b ≡ false) × (r ≡ Some y))
chosen true x y r h = inl (refl, cc)
chosen false x y r h = inr (refl, h)
