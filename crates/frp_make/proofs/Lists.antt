-- Lists of names, by their indices.
use Rattle.std.proofs.Common.{◌≡◌, ℕ, ◌<◌, ◌-◌, Bool, true, false, List, [], ◌∷◌, length, get_or, suc, refl, subst, arith}
use Rattle.std.specs.Prelude.{not}
use Rattle.std.specs.List.{list_all}
use Rattle.frp_base.specs.declared.name.Name.{Name}
use Rattle.frp_base.specs.Name.{name_eq}
use Rattle.frp_base.proofs.Booleans.{true_both}
use Rattle.frp_graph.specs.Links.{is_path, are_distinct}
use Rattle.frp_graph.proofs.Lists.{name_same}

-- what holds at each index holds of all
pub all_by_index : (p : Name → Bool) (ns : List Name) → ((k : ℕ) → k < length ns → p (get_or ns k []) ≡ true) → list_all p ns ≡ true
all_by_index p [] f = refl
all_by_index p (n ∷ ns) f = true_both (p n) (list_all p ns) (f 0 (omega arith)) (all_by_index p ns (λ k h. f (suc k) (omega arith)))

not_true_of : (b : Bool) → (b ≡ true → ⊥) → not b ≡ true
not_true_of true f = absurd (f refl)
not_true_of false f = refl

-- distinct names are at distinct indices
abbrev pub AreOnce : List Name → Type 0
AreOnce ns = (i j : ℕ) → i < length ns → j < length ns → get_or ns i [] ≡ get_or ns j [] → i ≡ j

pub distinct_by_index : (ns : List Name) → AreOnce ns → are_distinct ns ≡ true
distinct_by_index [] f = refl
distinct_by_index (n ∷ ns) f =
    true_both (list_all (λ k. not (name_eq n k)) ns) (are_distinct ns)
    (all_by_index (λ k. not (name_eq n k)) ns (λ k h. not_true_of _ (λ e. let z : 0 ≡ suc k = f 0 (suc k) (omega arith) (omega arith) (name_same n (get_or ns k []) e) in omega arith)))
    (distinct_by_index ns (λ i j h k e. let z : suc i ≡ suc j = f (suc i) (suc j) (omega arith) (omega arith) e in omega arith))

-- names each linked to the next, and the last to the end
pub path_by_index : (linked : Name → Name → Bool) (ns : List Name) (end : Name)
    → ((i : ℕ) → suc i < length ns → linked (get_or ns i []) (get_or ns (suc i) []) ≡ true)
    → (0 < length ns → linked (get_or ns (length ns - 1) []) end ≡ true) → is_path linked ns end ≡ true
path_by_index linked [] end f g = refl
path_by_index linked (n ∷ []) end f g = true_both (linked n end) true (g (omega arith)) refl
path_by_index linked (n ∷ k ∷ ns) end f g =
    true_both (linked n k) (is_path linked (k ∷ ns) end) (f 0 (omega arith))
    (path_by_index linked (k ∷ ns) end (λ i h. f (suc i) (omega arith)) (λ h. let e : length (n ∷ k ∷ ns) - 1 ≡ suc (length (k ∷ ns) - 1) = omega arith in subst (λ i. linked (get_or (n ∷ k ∷ ns) i []) end ≡ true) e (g (omega arith))))
