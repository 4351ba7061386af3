-- the test of equality of names decides equality; how a name stands to its maker and to its birth
use Rattle.std.proofs.Common.{◌≡◌, ℕ, ◌-◌, ◌<◌, List, [], ◌∷◌, Bool, true, false, length, get_or, take, refl, ap, suc, arith}
use Rattle.std.specs.Prelude.{◌&&◌, Some, None}
use Rattle.std.specs.Bool.{Decides}
use Rattle.std.proofs.Math.Seq.{take-append_seam}
use Rattle.std.specs.Cmp.{unsigned_Decides}
use lib.Pointwise.{pointwise_decides}
use Rattle.frp_base.specs.declared.name.Stage.{Stage}
use Rattle.frp_base.specs.Name.{stage_eq, name_eq, made_name, maker, birth, birth_after}
use Rattle.frp_base.specs.Laws.{MadeNamesHaveMakers, MadeNamesAreBorn}

pub both : (a b : Bool) (P Q R : Type 0) → Decides a P → Decides b Q → (R → P) → (R → Q) → (P → Q → R) → Decides (a && b) R
both true true P Q R f g l r m = (λ h. m (f.0 refl) (g.0 refl), λ h. refl)
both true false P Q R f g l r m = (λ h. absurd (cc), λ h. g.1 (r h))
both false b P Q R f g l r m = (λ h. absurd (cc), λ h. f.1 (l h))

pub stage_decides : (a b : Stage) → Decides (stage_eq a b) (a ≡ b)
stage_decides a b = both _ _ (a.time ≡ b.time) (a.item ≡ b.item) _ (pointwise_decides unsigned_Decides a.time b.time) (unsigned_Decides a.item b.item)
    (ap (λ s. s.time)) (ap (λ s. s.item)) (λ p q i. record { time = p i; item = q i })

pub name_decides : (a b : List Stage) → Decides (name_eq a b) (a ≡ b)
name_decides = pointwise_decides stage_decides

pub maker_taken : (n : List Stage) (k : ℕ) → k ≡ length n - 1 → 0 < k → maker n ≡ Some (take k n)
maker_taken [] k e h = absurd (omega arith)
maker_taken (s ∷ []) k e h = absurd (omega arith)
maker_taken (s ∷ r ∷ ss) k e h = let q : k ≡ length (r ∷ ss) = omega arith in rw q refl

pub maker_none : (n : List Stage) → length n - 1 ≡ 0 → maker n ≡ None
maker_none [] h = refl
maker_none (s ∷ []) h = refl
maker_none (s ∷ r ∷ ss) h = absurd (omega arith)

last_born : (s : Stage) (ss : List Stage) (t : List ℕ) (d : Stage) → (get_or (s ∷ ss) (length ss) d).time ≡ birth_after t (s ∷ ss)
last_born s [] t d = refl
last_born s (r ∷ ss) t d = last_born r ss s.time d

-- the last stage has the time of birth
pub birth_last : (n : List Stage) (d : Stage) → 0 < length n → (get_or n (length n - 1) d).time ≡ birth n
birth_last [] d h = absurd (omega arith)
birth_last (s ∷ ss) d h = let e : length (s ∷ ss) - 1 ≡ length ss = omega arith in rw e (last_born s ss [] d)

-- the maker and the birth of a made name are those that it was made of
pub made_names_have_makers : MadeNamesHaveMakers
made_names_have_makers [] t k h = absurd (omega arith)
made_names_have_makers (s ∷ []) t k h = refl
made_names_have_makers (s ∷ r ∷ ss) t k h =
    let q : List Stage = made_name ss t k in
    let e : length q ≡ length (r ∷ ss) = length_made ss t k in
    rw e (ap (λ (xs : List Stage). Some (s ∷ xs)) (take-append_seam (r ∷ ss) (record { time = t; item = k } ∷ [])))
  where
    length_made : (n : List Stage) (t : List ℕ) (k : ℕ) → length (made_name n t k) ≡ suc (length n)
    length_made [] t k = refl
    length_made (s ∷ ss) t k = ap suc (length_made ss t k)

born_after : (n : List Stage) (b t : List ℕ) (k : ℕ) → birth_after b (made_name n t k) ≡ t
born_after [] b t k = refl
born_after (s ∷ ss) b t k = born_after ss s.time t k

pub made_names_are_born : MadeNamesAreBorn
made_names_are_born n t k = born_after n [] t k
