-- how a time stands to its child and to its parent
use Rattle.std.proofs.Common.{◌≡◌, ℕ, ◌-◌, ◌<◌, List, [], ◌∷◌, ◌++◌, length, take, get_or, refl, ap, ◌∙◌, arith}
use Rattle.std.specs.Prelude.{Option, Some, None, option_map}
use Rattle.frp_base.specs.Time.{parent_and_number, parent}
use Rattle.frp_base.specs.Laws.{ChildrenHaveParents}

-- a child's parent and number are those that it was made of
pub children_have_parents : ChildrenHaveParents
children_have_parents [] i h = absurd (omega arith)
children_have_parents (n ∷ []) i h = refl
children_have_parents (n ∷ m ∷ []) i h = refl
children_have_parents (n ∷ m ∷ k ∷ t) i h = ap (option_map (λ (p : List ℕ × ℕ). (n ∷ p.0, p.1))) (children_have_parents (m ∷ k ∷ t) i (omega arith))

-- the first number goes over
first_goes : (n : ℕ) (o : Option (List ℕ × ℕ))
    → option_map (λ (p : List ℕ × ℕ). p.0) (option_map (λ (p : List ℕ × ℕ). (n ∷ p.0, p.1)) o) ≡ option_map (λ (t : List ℕ). n ∷ t) (option_map (λ (p : List ℕ × ℕ). p.0) o)
first_goes n None = refl
first_goes n (Some p) = refl

parent_front : (n m : ℕ) (t : List ℕ) → parent (n ∷ m ∷ t) ≡ Some (take (length (m ∷ t)) (n ∷ m ∷ t))
parent_front n m [] = refl
parent_front n m (k ∷ t) = first_goes n (parent_and_number (m ∷ k ∷ t)) ∙ ap (option_map (λ (t : List ℕ). n ∷ t)) (parent_front m k t)

-- the parent has all the numbers but the last
pub parent_taken : (t : List ℕ) (k : ℕ) → k ≡ length t - 1 → 0 < k → parent t ≡ Some (take k t)
parent_taken [] k e h = absurd (omega arith)
parent_taken (n ∷ []) k e h = absurd (omega arith)
parent_taken (n ∷ m ∷ t) k e h = let q : k ≡ length (m ∷ t) = omega arith in rw q (parent_front n m t)

pub parent_none : (t : List ℕ) → length t - 1 ≡ 0 → parent t ≡ None
parent_none [] h = refl
parent_none (n ∷ []) h = refl
parent_none (n ∷ m ∷ t) h = absurd (omega arith)

-- the parent and the number of a child
parts_front : (n m : ℕ) (t : List ℕ) → parent_and_number (n ∷ m ∷ t) ≡ Some (take (length (m ∷ t)) (n ∷ m ∷ t), get_or (n ∷ m ∷ t) (length (m ∷ t)) 0)
parts_front n m [] = refl
parts_front n m (k ∷ t) = ap (option_map (λ (p : List ℕ × ℕ). (n ∷ p.0, p.1))) (parts_front m k t)

pub parts_taken : (t : List ℕ) (k : ℕ) → k ≡ length t - 1 → 0 < k → parent_and_number t ≡ Some (take k t, get_or t k 0)
parts_taken [] k e h = absurd (omega arith)
parts_taken (n ∷ []) k e h = absurd (omega arith)
parts_taken (n ∷ m ∷ t) k e h = let q : k ≡ length (m ∷ t) = omega arith in rw q (parts_front n m t)

pub parts_none : (t : List ℕ) → length t - 1 ≡ 0 → parent_and_number t ≡ None
parts_none [] h = refl
parts_none (n ∷ []) h = refl
parts_none (n ∷ m ∷ t) h = absurd (omega arith)
