-- Lists of names, by their indices.
use Rattle.std.proofs.Common.{◌≡◌, ℕ, ◌<◌, ◌+◌, ◌-◌, Bool, true, false, List, [], ◌∷◌, ◌++◌, length, get_or, map, take, Some, suc, zero, refl, sym, ap, ◌∙◌, subst, arith}
use Rattle.std.specs.Prelude.{not, slice_get}
use Rattle.std.specs.List.{list_all, AllByRecursion}
use Rattle.std.proofs.lemmas.List.{map_more}
use Rattle.frp_base.specs.declared.name.Name.{Name}
use Rattle.frp_base.specs.Name.{name_eq}
use Rattle.frp_base.proofs.Booleans.{both_true, true_both}
use Rattle.frp_graph.specs.Links.{is_path, are_distinct}
use Rattle.frp_graph.proofs.Lists.{name_same, name_eq-same}

-- what holds at each index holds of all
pub all_by_index : (p : Name → Bool) (ns : List Name) → ((k : ℕ) → k < length ns → p (get_or ns k []) ≡ true) → list_all p ns ≡ true
all_by_index p [] f = refl
all_by_index p (n ∷ ns) f = true_both (p n) (list_all p ns) (f 0 (omega arith)) (all_by_index p ns (λ k h. f (suc k) (omega arith)))

pub by_index_all : (p : Name → Bool) (ns : List Name) → list_all p ns ≡ true → (k : ℕ) → k < length ns → p (get_or ns k []) ≡ true
by_index_all p [] h k l = absurd (omega arith)
by_index_all p (n ∷ ns) h zero l = (both_true (p n) (list_all p ns) h).0
by_index_all p (n ∷ ns) h (suc k) l = by_index_all p ns (both_true (p n) (list_all p ns) h).1 k (omega arith)

not_true_of : (b : Bool) → (b ≡ true → ⊥) → not b ≡ true
not_true_of true f = absurd (f refl)
not_true_of false f = refl

true_not_of : (b : Bool) → not b ≡ true → b ≡ true → ⊥
true_not_of true h e = let z : false ≡ true = h in cc
true_not_of false h e = let z : false ≡ true = e in cc

-- distinct names are at distinct indices
abbrev pub AreOnce : List Name → Type 0
AreOnce ns = (i j : ℕ) → i < length ns → j < length ns → get_or ns i [] ≡ get_or ns j [] → i ≡ j

pub distinct_by_index : (ns : List Name) → AreOnce ns → are_distinct ns ≡ true
distinct_by_index [] f = refl
distinct_by_index (n ∷ ns) f =
    true_both (list_all (λ k. not (name_eq n k)) ns) (are_distinct ns)
    (all_by_index (λ k. not (name_eq n k)) ns (λ k h. not_true_of _ (λ e. let z : 0 ≡ suc k = f 0 (suc k) (omega arith) (omega arith) (name_same n (get_or ns k []) e) in omega arith)))
    (distinct_by_index ns (λ i j h k e. let z : suc i ≡ suc j = f (suc i) (suc j) (omega arith) (omega arith) e in omega arith))

pub by_index_distinct : (ns : List Name) → are_distinct ns ≡ true → AreOnce ns
by_index_distinct [] h i j a b e = absurd (omega arith)
by_index_distinct (n ∷ ns) h zero zero a b e = refl
by_index_distinct (n ∷ ns) h zero (suc j) a b e =
    let l : j < length ns = omega arith in
    absurd (true_not_of _ (by_index_all (λ k. not (name_eq n k)) ns (both_true _ _ h).0 j l) (subst (λ m. name_eq n m ≡ true) e (name_eq-same n)))
by_index_distinct (n ∷ ns) h (suc i) zero a b e =
    let l : i < length ns = omega arith in
    absurd (true_not_of _ (by_index_all (λ k. not (name_eq n k)) ns (both_true _ _ h).0 i l) (subst (λ m. name_eq n m ≡ true) (sym e) (name_eq-same n)))
by_index_distinct (n ∷ ns) h (suc i) (suc j) a b e = ap suc (by_index_distinct ns (both_true (list_all (λ k. not (name_eq n k)) ns) (are_distinct ns) h).1 i j (omega arith) (omega arith) e)

-- names each linked to the next, and the last to the end
pub path_by_index : (linked : Name → Name → Bool) (ns : List Name) (end : Name)
    → ((i : ℕ) → suc i < length ns → linked (get_or ns i []) (get_or ns (suc i) []) ≡ true)
    → (0 < length ns → linked (get_or ns (length ns - 1) []) end ≡ true) → is_path linked ns end ≡ true
path_by_index linked [] end f g = refl
path_by_index linked (n ∷ []) end f g = true_both (linked n end) true (g (omega arith)) refl
path_by_index linked (n ∷ k ∷ ns) end f g =
    true_both (linked n k) (is_path linked (k ∷ ns) end) (f 0 (omega arith))
    (path_by_index linked (k ∷ ns) end (λ i h. f (suc i) (omega arith)) (λ h. let e : length (n ∷ k ∷ ns) - 1 ≡ suc (length (k ∷ ns) - 1) = omega arith in subst (λ i. linked (get_or (n ∷ k ∷ ns) i []) end ≡ true) e (g (omega arith))))

-- items that are found

pub found_at : {A : Type 0} (xs : List A) (i : ℕ) → i < length xs → (x : A) × (slice_get xs i ≡ Some x)
found_at [] i h = absurd (omega arith)
found_at (x ∷ xs) zero h = (x, refl)
found_at (x ∷ xs) (suc i) h = found_at xs i (omega arith)

pub found_inside : {A : Type 0} (xs : List A) (i : ℕ) (x : A) → slice_get xs i ≡ Some x → i < length xs
found_inside [] i x h = absurd cc
found_inside (y ∷ xs) zero x h = omega arith
found_inside (y ∷ xs) (suc i) x h = let l = found_inside xs i x h in omega arith

pub map_found : {A B : Type 0} (f : A → B) (xs : List A) (i : ℕ) (x : A) (d : B) → slice_get xs i ≡ Some x → get_or (map f xs) i d ≡ f x
map_found f [] i x d h = absurd cc
map_found f (y ∷ xs) zero x d h = let e : y ≡ x = cc in ap f e
map_found f (y ∷ xs) (suc i) x d h = map_found f xs i x d h

found_or : {A : Type 0} (xs : List A) (i : ℕ) (x d : A) → slice_get xs i ≡ Some x → get_or xs i d ≡ x
found_or [] i x d h = absurd cc
found_or (y ∷ xs) zero x d h = cc
found_or (y ∷ xs) (suc i) x d h = found_or xs i x d h

-- one item more
pub map_step : {A B : Type 0} (f : A → B) (xs : List A) (i : ℕ) (x : A) → slice_get xs i ≡ Some x → map f (take (i + 1) xs) ≡ map f (take i xs) ++ f x ∷ []
map_step f xs i x h = map_more f xs i x (found_inside xs i x h) ∙ ap (λ y. map f (take i xs) ++ f y ∷ []) (found_or xs i x x h)

pub all_found : {A : Type 0} (P : A → Type 0) (xs : List A) (i : ℕ) (x : A) → AllByRecursion P xs → slice_get xs i ≡ Some x → P x
all_found P [] i x a h = absurd cc
all_found P (y ∷ xs) zero x a h = let e : y ≡ x = cc in subst P e a.0
all_found P (y ∷ xs) (suc i) x a h = all_found P xs i x a.1 h
