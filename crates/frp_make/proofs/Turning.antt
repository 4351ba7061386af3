-- A ring of names, turned to begin with its least.
use Rattle.std.proofs.Common.{◌≡◌, ◌⊎◌, ℕ, ◌<◌, ◌≤◌, ◌+◌, ◌-◌, Bool, true, false, List, [], ◌∷◌, ◌++◌, length, get_or, take, drop, suc, refl, sym, ap, ◌∙◌, subst, arith, inl, inr}
use Rattle.std.specs.Prelude.{◌&&◌}
use Rattle.std.specs.List.{list_all}
use Rattle.std.specs.Ordering.{is_lt}
use Rattle.std.proofs.lemmas.Bool.{cases_lt}
use Rattle.std.proofs.lemmas.List.{length-append, length-drop, length-take-le, get_or_append_left, get_or-append_right, get_or-drop, get_or-take}
use Rattle.frp_base.specs.declared.name.Name.{Name}
use Rattle.frp_base.specs.Name.{name_cmp}
use Rattle.frp_base.proofs.Booleans.{true_both}
use Rattle.frp_base.proofs.OrderLemmas.{name_cmp-total}
use Rattle.frp_graph.specs.Links.{is_path, are_distinct, is_closed_chain}
use Rattle.frp_make.specs.Told.{IsNameRing, IsLeast}
use Rattle.frp_make.proofs.Lists.{all_by_index, AreOnce, distinct_by_index, path_by_index}

module _ (linked : Name → Name → Bool) (ns : List Name) (ring : IsNameRing linked ns) (i : ℕ) (inside : i < length ns) (least : IsLeast ns i) where
  abbrev pub turned : List Name
  turned = drop i ns ++ take i ns

  back : length (drop i ns) ≡ length ns - i
  back = length-drop i ns

  as_long : length turned ≡ length ns
  as_long = let a = length-append (drop i ns) (take i ns) in let b = back in let c : length (take i ns) ≡ i = length-take-le i ns (omega arith) in omega arith

  early : (k : ℕ) → k < length ns - i → get_or turned k [] ≡ get_or ns (i + k) []
  early k h = get_or_append_left (drop i ns) (take i ns) [] k (subst (λ m. k < m) (sym back) h) ∙ get_or-drop i ns k []

  late : (k : ℕ) → length ns - i ≤ k → k < length ns → get_or turned k [] ≡ get_or ns (k - (length ns - i)) []
  late k h l = get_or-append_right (drop i ns) (take i ns) (length ns - i) k [] back h ∙ get_or-take i ns (k - (length ns - i)) [] (omega arith)

  -- where the name of an index stood before
  record Stood (k : ℕ) : Type 0 where
    index : ℕ
    within : index < length ns
    same : get_or turned k [] ≡ get_or ns index []
    where_it : ((i ≤ index) × (index ≡ i + k)) ⊎ ((index < i) × (k ≡ index + (length ns - i)))

  stood : (k : ℕ) → k < length ns → Stood k
  stood k l = elim (cases_lt k (length ns - i)) [
    | inl h ↦ record { index = i + k; within = omega arith; same = early k h; where_it = inl (omega arith, refl) }
    | inr h ↦ record { index = k - (length ns - i); within = omega arith; same = late k h l; where_it = inr (omega arith, omega arith) }
  ]

  same_index : (j k x y : ℕ) → ((i ≤ x) × (x ≡ i + j)) ⊎ ((x < i) × (j ≡ x + (length ns - i))) → ((i ≤ y) × (y ≡ i + k)) ⊎ ((y < i) × (k ≡ y + (length ns - i))) → x ≡ y → j ≡ k
  same_index j k x y (inl p) (inl q) e = let a = p.1 in let b = q.1 in omega arith
  same_index j k x y (inl p) (inr q) e = let a = p.0 in let b = q.0 in absurd (omega arith)
  same_index j k x y (inr p) (inl q) e = let a = p.0 in let b = q.0 in absurd (omega arith)
  same_index j k x y (inr p) (inr q) e = let a = p.1 in let b = q.1 in omega arith

  once : AreOnce turned
  once j k h l e =
      let a = stood j (subst (λ m. j < m) as_long h) in
      let b = stood k (subst (λ m. k < m) as_long l) in
      same_index j k a.index b.index a.where_it b.where_it (ring.once a.index b.index a.within b.within (sym a.same ∙ e ∙ b.same))

  -- each of the names is linked to the one after it, round the ring
  after_that : (j k : ℕ) → j < length ns → k < length ns → (suc j ≡ k) ⊎ ((suc j ≡ length ns) × (k ≡ 0)) → linked (get_or ns j []) (get_or ns k []) ≡ true
  after_that j k h l (inl e) = subst (λ m. linked (get_or ns j []) (get_or ns m []) ≡ true) e (ring.next j (omega arith))
  after_that j k h l (inr (e, z)) =
      let last : length ns - 1 ≡ j = omega arith in
      subst (λ m. linked (get_or ns j []) (get_or ns m []) ≡ true) (sym z) (subst (λ m. linked (get_or ns m []) (get_or ns 0 []) ≡ true) last ring.round)

  follows : (j k x y : ℕ) → j < length ns → k < length ns → x < length ns → y < length ns → (suc j ≡ k) ⊎ ((suc j ≡ length ns) × (k ≡ 0))
      → ((i ≤ x) × (x ≡ i + j)) ⊎ ((x < i) × (j ≡ x + (length ns - i))) → ((i ≤ y) × (y ≡ i + k)) ⊎ ((y < i) × (k ≡ y + (length ns - i)))
      → (suc x ≡ y) ⊎ ((suc x ≡ length ns) × (y ≡ 0))
  follows j k x y a b c d (inl e) (inl p) (inl q) = let u = p.1 in let v = q.1 in inl (omega arith)
  follows j k x y a b c d (inl e) (inl p) (inr q) = let u = p.1 in let v = q.1 in inr (omega arith, omega arith)
  follows j k x y a b c d (inl e) (inr p) (inl q) = let u = p.1 in let v = q.1 in let w = p.0 in let z = q.0 in absurd (omega arith)
  follows j k x y a b c d (inl e) (inr p) (inr q) = let u = p.1 in let v = q.1 in inl (omega arith)
  follows j k x y a b c d (inr e) (inl p) (inl q) = let u = p.1 in let v = q.1 in let f = e.0 in let g = e.1 in inr (omega arith, omega arith)
  follows j k x y a b c d (inr e) (inl p) (inr q) = let u = p.1 in let v = q.1 in let f = e.0 in let g = e.1 in absurd (omega arith)
  follows j k x y a b c d (inr e) (inr p) (inl q) = let u = p.1 in let v = q.1 in let f = e.0 in let g = e.1 in inl (omega arith)
  follows j k x y a b c d (inr e) (inr p) (inr q) = let u = p.1 in let v = q.1 in let f = e.0 in let g = e.1 in absurd (omega arith)

  links_on : (j k : ℕ) → j < length ns → k < length ns → (suc j ≡ k) ⊎ ((suc j ≡ length ns) × (k ≡ 0)) → linked (get_or turned j []) (get_or turned k []) ≡ true
  links_on j k h l e =
      let a = stood j h in
      let b = stood k l in
      let f = follows j k a.index b.index h l a.within b.within e a.where_it b.where_it in
      subst (λ n. linked n (get_or turned k []) ≡ true) (sym a.same) (subst (λ n. linked (get_or ns a.index []) n ≡ true) (sym b.same) (after_that a.index b.index a.within b.within f))

  first_is : get_or turned 0 [] ≡ get_or ns i []
  first_is = let z : i + 0 ≡ i = omega arith in early 0 (omega arith) ∙ ap (λ m. get_or ns m []) z

  above_first : (k : ℕ) → 0 < k → k < length ns → is_lt (name_cmp (get_or ns i []) (get_or turned k [])) ≡ true
  above_first k p l =
      let b = stood k l in
      elim (name_cmp-total (get_or ns i []) (get_or turned k [])) [
        | inl a ↦ ap is_lt a
        | inr o ↦ elim o [
          | inl e ↦ let z : k ≡ 0 = once k 0 (subst (λ m. k < m) (sym as_long) l) (subst (λ m. 0 < m) (sym as_long) (omega arith)) (sym e ∙ sym first_is) in absurd (omega arith)
          | inr g ↦ let f : is_lt (name_cmp (get_or turned k []) (get_or ns i [])) ≡ false = subst (λ n. is_lt (name_cmp n (get_or ns i [])) ≡ false) (sym b.same) (least b.index b.within) in let t : is_lt (name_cmp (get_or turned k []) (get_or ns i [])) ≡ true = ap is_lt g in absurd (cc (f, t))
        ]
      ]

  closes : (t : List Name) → t ≡ turned → is_closed_chain linked t ≡ true
  closes [] e = let l : length {A = Name} [] ≡ length turned = ap length e in let a = as_long in absurd (omega arith)
  closes (n ∷ rest) e =
      let long : length (n ∷ rest) ≡ length ns = ap length e ∙ as_long in
      let start : n ≡ get_or ns i [] = ap (λ t. get_or t 0 []) e ∙ first_is in
      let path : is_path linked (n ∷ rest) n ≡ true = path_by_index linked (n ∷ rest) n
      (λ j h. subst (λ t. linked (get_or t j []) (get_or t (suc j) []) ≡ true) (sym e) (links_on j (suc j) (omega arith) (omega arith) (inl refl)))
      (λ h. subst (λ t. linked (get_or t (length t - 1) []) (get_or t 0 []) ≡ true) (sym e) (let a = as_long in links_on (length turned - 1) 0 (omega arith) (omega arith) (inr (omega arith, refl)))) in
      true_both (are_distinct (n ∷ rest) && list_all (λ k. is_lt (name_cmp n k)) rest) (is_path linked (n ∷ rest) n)
      (true_both (are_distinct (n ∷ rest)) (list_all (λ k. is_lt (name_cmp n k)) rest)
      (distinct_by_index (n ∷ rest) (subst AreOnce (sym e) once))
      (all_by_index (λ k. is_lt (name_cmp n k)) rest (λ k h. subst (λ m. is_lt (name_cmp m (get_or rest k [])) ≡ true) (sym start) (subst (λ t. is_lt (name_cmp (get_or ns i []) (get_or t (suc k) [])) ≡ true) (sym e) (above_first (suc k) (omega arith) (omega arith))))))
      path

  pub turned_closes : is_closed_chain linked turned ≡ true
  turned_closes = closes turned refl
