-- Changes and what undoes them.
use Rattle.std.proofs.Common.{◌≡◌, ℕ, List, [], ◌∷◌, ◌++◌, drop, zero, suc, refl, sym, ap, ◌∙◌, subst}
use Rattle.frp_store.specs.declared.change.Change.{Change}
use Rattle.frp_store.specs.Lists.{Lists}
use Rattle.frp_store.specs.Undo.{undo, undo_all}

-- the newest change is undone first
pub undo_push : (cs : List Change) (c : Change) (l : Lists) → undo_all (cs ++ c ∷ []) l ≡ undo_all cs (undo c l)
undo_push [] c l = refl
undo_push (d ∷ cs) c l = ap (undo d) (undo_push cs c l)

-- a change more, which undoes to what was before
pub pushed_base : (cs new : List Change) (c : Change) (l old : Lists) → new ≡ cs ++ c ∷ [] → undo c l ≡ old → undo_all new l ≡ undo_all cs old
pushed_base cs new c l old e u = ap (λ ds. undo_all ds l) e ∙ undo_push cs c l ∙ ap (undo_all cs) u

-- a change fewer, once it is undone
pub popped_base : (cs rest : List Change) (c : Change) (l new : Lists) → cs ≡ rest ++ c ∷ [] → undo c l ≡ new → undo_all rest new ≡ undo_all cs l
popped_base cs rest c l new e u = sym (pushed_base rest cs c l new e u)

drop_none : {A : Type 0} (k : ℕ) → ◌≡◌ {A = List A} (drop k []) []
drop_none zero = refl
drop_none (suc k) = refl

-- what holds of lists, and of each that were reached while changes were undone, holds of each with a change more
pub pushed_all : (P : Lists → Type 0) (cs : List Change) (c : Change) (new old : Lists) → undo c new ≡ old → P new
    → ((k : ℕ) → P (undo_all (drop k cs) old)) → (k : ℕ) → P (undo_all (drop k (cs ++ c ∷ [])) new)
pushed_all P [] c new old u now all zero = subst P (sym u) (all zero)
pushed_all P [] c new old u now all (suc k) = subst (λ l. P (undo_all l new)) (sym (drop_none k)) now
pushed_all P (d ∷ cs) c new old u now all zero = subst P (sym (ap (undo d) (undo_push cs c new ∙ ap (undo_all cs) u))) (all zero)
pushed_all P (d ∷ cs) c new old u now all (suc k) = pushed_all P cs c new old u now (λ j. all (suc j)) k

-- and of each with a change fewer, once it is undone
pub popped_all : (P : Lists → Type 0) (cs : List Change) (c : Change) (l : Lists) → ((k : ℕ) → P (undo_all (drop k (cs ++ c ∷ [])) l))
    → (k : ℕ) → P (undo_all (drop k cs) (undo c l))
popped_all P [] c l all k = subst (λ ds. P (undo_all ds (undo c l))) (sym (drop_none k)) (all zero)
popped_all P (d ∷ cs) c l all zero = subst P (ap (undo d) (undo_push cs c l)) (all zero)
popped_all P (d ∷ cs) c l all (suc k) = popped_all P cs c l (λ j. all (suc j)) k

-- of the lists themselves
pub of_now : (P : Lists → Type 0) (cs : List Change) (l : Lists) → ((k : ℕ) → P (undo_all (drop k cs) l)) → P l
of_now P [] l all = all zero
of_now P (c ∷ cs) l all = of_now P cs l (λ j. all (suc j))

-- where there are no changes
pub unchanged : (P : Lists → Type 0) (k : ℕ) (l : Lists) → P l → P (undo_all (drop k []) l)
unchanged P zero l h = h
unchanged P (suc k) l h = h
