-- Marks of places, with one of them written.
use Rattle.std.proofs.Common.{◌≡◌, ℕ, ◌<◌, ◌+◌, Bool, true, false, List, length, set, refl, sym, ap, ◌∙◌, inl, inr}
use Rattle.std.proofs.Common.{get_or-set_other, get_or-set_same}
use Rattle.std.proofs.lemmas.Bool.{cases_lt, cases_eq}
use Rattle.std.proofs.lemmas.List.{get_or_past}
use Rattle.std.proofs.lemmas.List.Sums.{sum_by-set}
use Rattle.frp_order.specs.declared.mark.Mark.{Mark}
use Rattle.frp_order.specs.declared.mark.Mark.TheVariants.{Unseen, Open, Done}
use Rattle.frp_order.specs.Search.{is_unseen, is_done, mark_at, one_unseen, unseen}

-- a mark that tells something is that of a place
pub mark_inside : (marks : List Mark) (p : ℕ) → (mark_at marks p ≡ Unseen → ⊥) → p < length marks
mark_inside marks p f = elim (cases_lt p (length marks)) [ inl h ↦ h | inr g ↦ absurd (f (get_or_past marks p Unseen g)) ]

-- which number a mark of each kind has
pub done_number : (m : Mark) → is_done m ≡ true → (k : ℕ) × (m ≡ Done k)
done_number Unseen h = absurd cc
done_number (Open j) h = absurd cc
done_number (Done k) h = (k, refl)

pub unseen_is : (m : Mark) → is_unseen m ≡ true → m ≡ Unseen
unseen_is Unseen h = refl
unseen_is (Open j) h = absurd cc
unseen_is (Done k) h = absurd cc

pub seen_not_open : (m : Mark) → is_unseen m ≡ false → ((j : ℕ) → m ≡ Open j → ⊥) → is_done m ≡ true
seen_not_open Unseen h f = absurd cc
seen_not_open (Open j) h f = absurd (f j refl)
seen_not_open (Done k) h f = refl

pub not_done_unseen : (m : Mark) → is_done m ≡ false → ((j : ℕ) → m ≡ Open j → ⊥) → m ≡ Unseen
not_done_unseen Unseen h f = refl
not_done_unseen (Open j) h f = absurd (f j refl)
not_done_unseen (Done k) h f = absurd cc

pub open_same : (i j : ℕ) → Open i ≡ Open j → i ≡ j
open_same i j e = cc

pub done_same : (i j : ℕ) → Done i ≡ Done j → i ≡ j
done_same i j e = cc

module _ (marks : List Mark) (p : ℕ) (was n : Mark) (before : mark_at marks p ≡ was) where
  -- another mark stays
  pub mark_stays : (q : ℕ) (k : Mark) → mark_at marks q ≡ k → (k ≡ was → ⊥) → mark_at (set marks p n) q ≡ k
  mark_stays q k h f = get_or-set_other marks p q n Unseen (λ e. f (sym h ∙ ap (λ r. mark_at marks r) e ∙ before)) ∙ h

  pub test_stays : (t : Mark → Bool) (b : Bool) (q : ℕ) → t (mark_at marks q) ≡ b → (t was ≡ b → ⊥) → t (mark_at (set marks p n) q) ≡ b
  test_stays t b q h f = ap t (get_or-set_other marks p q n Unseen (λ e. f (ap t (sym before) ∙ ap (λ r. t (mark_at marks r)) (sym e) ∙ h))) ∙ h

  module _ (inside : p < length marks) where
    pub mark_written : mark_at (set marks p n) p ≡ n
    mark_written = get_or-set_same marks p n Unseen inside

    -- what is another mark than the one that was written was there before
    pub mark_before : (q : ℕ) (k : Mark) → mark_at (set marks p n) q ≡ k → (n ≡ k → ⊥) → mark_at marks q ≡ k
    mark_before q k h f = elim (cases_eq q p) [
      | inl e ↦ absurd (f (sym mark_written ∙ ap (λ r. mark_at (set marks p n) r) (sym e) ∙ h))
      | inr d ↦ sym (get_or-set_other marks p q n Unseen d) ∙ h
    ]

    pub seen_stays : (q : ℕ) → is_unseen n ≡ false → is_unseen (mark_at marks q) ≡ false → is_unseen (mark_at (set marks p n) q) ≡ false
    seen_stays q s h = elim (cases_eq q p) [
      | inl e ↦ ap (λ r. is_unseen (mark_at (set marks p n) r)) e ∙ ap is_unseen mark_written ∙ s
      | inr d ↦ ap is_unseen (get_or-set_other marks p q n Unseen d) ∙ h
    ]

    -- how many are not met
    pub unseen_written : unseen (set marks p n) + one_unseen was ≡ unseen marks + one_unseen n
    unseen_written = ap (λ m. unseen (set marks p n) + one_unseen m) (sym before) ∙ sum_by-set one_unseen marks p n Unseen inside
