-- Lists by rising name in which the same items are found are one list.
use Rattle.std.proofs.Common.{◌≡◌, Bool, true, false, List, [], ◌∷◌, map, Option, Some, None, refl, sym, ap, ◌∙◌, subst}
use Rattle.std.proofs.Common.{inl, inr}
use Rattle.std.specs.Prelude.{option_map, if◌then◌else◌}
use Rattle.std.specs.List.{AllByRecursion}
use Rattle.std.specs.List.Sorted.{IsStrictlySortedBy}
use Rattle.std.specs.declared.cmp.Ordering.TheVariants.{Less, Equal}
use Rattle.frp_base.specs.declared.name.Name.{Name}
use Rattle.frp_base.specs.declared.val.Val.{Val}
use Rattle.frp_base.specs.Name.{name_eq, name_cmp}
use Rattle.frp_base.proofs.OrderLemmas.{name_cmp-total, name_cmp-transitive}
use Rattle.frp_base.proofs.Booleans.{is_false}
use Rattle.frp_graph.specs.declared.trace.Node.{Node}
use Rattle.frp_graph.specs.declared.trace.Fact.{Fact}
use Rattle.frp_graph.specs.Trace.{fact_in, node_in}
use Rattle.frp_graph.proofs.Lists.{name_same, name_eq-same}
use Rattle.frp_graph.proofs.Order.{name_cmp-same}

module _ {A : Type 0} (key : A → Name) where
  abbrev item_of : List A → Name → Option A
  item_of [] n = None
  item_of (x ∷ xs) n = if name_eq (key x) n then Some x else item_of xs n

  abbrev AllAfter : Name → List A → Type 0
  AllAfter n xs = AllByRecursion (λ j. name_cmp n j ≡ Less) (map key xs)

  not_self : (n k : Name) → n ≡ k → name_cmp n k ≡ Less → ⊥
  not_self n k e l = let s : name_cmp n n ≡ Less = subst (λ j. name_cmp n j ≡ Less) (sym e) l in let q : name_cmp n n ≡ Equal = name_cmp-same n in cc

  apart : (n k : Name) → name_cmp n k ≡ Less → name_eq k n ≡ false
  apart n k l = is_false (name_eq k n) (λ e. not_self n k (sym (name_same k n e)) l)

  none_found : (n : Name) (xs : List A) → AllAfter n xs → item_of xs n ≡ None
  none_found n [] h = refl
  none_found n (x ∷ xs) h = rw (apart n (key x) h.0) (none_found n xs h.1)

  still_after : (n k : Name) (xs : List A) → name_cmp n k ≡ Less → AllAfter k xs → AllAfter n xs
  still_after n k [] l h = tt
  still_after n k (x ∷ xs) l h = (name_cmp-transitive n k (key x) l h.0, still_after n k xs l h.1)

  found_self : (x : A) (xs : List A) → item_of (x ∷ xs) (key x) ≡ Some x
  found_self x xs = rw (name_eq-same (key x)) refl

  abbrev AreOne : List A → List A → Type 0
  AreOne xs ys = (n : Name) → item_of xs n ≡ item_of ys n

  first_not_before : (x y : A) (xs ys : List A) → AllAfter (key y) ys → AreOne (x ∷ xs) (y ∷ ys) → name_cmp (key x) (key y) ≡ Less → ⊥
  first_not_before x y xs ys s h l =
      let none : item_of (y ∷ ys) (key x) ≡ None = none_found (key x) (y ∷ ys) (l, still_after (key x) (key y) ys l s) in
      let some : item_of (y ∷ ys) (key x) ≡ Some x = sym (h (key x)) ∙ found_self x xs in
      let both : ◌≡◌ {A = Option A} None (Some x) = sym none ∙ some in
      cc

  first_one : (x y : A) (xs ys : List A) → AllAfter (key x) xs → AllAfter (key y) ys → AreOne (x ∷ xs) (y ∷ ys) → x ≡ y
  first_one x y xs ys r s h = elim (name_cmp-total (key x) (key y)) [
    | inl l ↦ absurd (first_not_before x y xs ys s h l)
    | inr (inl e) ↦
        let there : item_of (y ∷ ys) (key x) ≡ Some y = ap (item_of (y ∷ ys)) e ∙ found_self y ys in
        let both : ◌≡◌ {A = Option A} (Some x) (Some y) = sym (found_self x xs) ∙ h (key x) ∙ there in
        cc
    | inr (inr g) ↦ absurd (first_not_before y x ys xs r (λ n. sym (h n)) g)
  ]

  rest_one : (x y : A) (xs ys : List A) → AllAfter (key x) xs → AllAfter (key y) ys → key x ≡ key y → AreOne (x ∷ xs) (y ∷ ys) → AreOne xs ys
  rest_one x y xs ys r s e h n = by (name_eq (key x) n) refl where
    by : (b : Bool) → name_eq (key x) n ≡ b → item_of xs n ≡ item_of ys n
    by true t =
        let same : key x ≡ n = name_same (key x) n t in
        none_found n xs (subst (λ k. AllAfter k xs) same r) ∙ sym (none_found n ys (subst (λ k. AllAfter k ys) (sym e ∙ same) s))
    by false f =
        let g : name_eq (key y) n ≡ false = subst (λ k. name_eq k n ≡ false) e f in
        let own : item_of (x ∷ xs) n ≡ item_of xs n = rw f refl in
        let other : item_of (y ∷ ys) n ≡ item_of ys n = rw g refl in
        sym own ∙ h n ∙ other

  pub one_list : (xs ys : List A) → IsStrictlySortedBy name_cmp (map key xs) → IsStrictlySortedBy name_cmp (map key ys) → AreOne xs ys → xs ≡ ys
  unfolding IsStrictlySortedBy
  one_list [] [] r s h = refl
  one_list [] (y ∷ ys) r s h = absurd (let both : ◌≡◌ {A = Option A} None (Some y) = h (key y) ∙ found_self y ys in cc)
  one_list (x ∷ xs) [] r s h = absurd (let both : ◌≡◌ {A = Option A} (Some x) None = sym (found_self x xs) ∙ h (key x) in cc)
  one_list (x ∷ xs) (y ∷ ys) r s h =
      let e = first_one x y xs ys r.0 s.0 h in
      let rest = one_list xs ys r.1 s.1 (rest_one x y xs ys r.0 s.0 (ap key e) h) in
      (λ i. e i ∷ rest i)

-- Nodes and facts.

node_found : (xs : List Node) (n : Name) → node_in xs n ≡ item_of (λ x. x.name) xs n
node_found [] n = refl
node_found (x ∷ xs) n = ap (λ o. if name_eq x.name n then Some x else o) (node_found xs n)

pub one_born : (xs ys : List Node) → IsStrictlySortedBy name_cmp (map (λ x. x.name) xs) → IsStrictlySortedBy name_cmp (map (λ x. x.name) ys) → ((n : Name) → node_in xs n ≡ node_in ys n) → xs ≡ ys
one_born xs ys r s h = one_list (λ x. x.name) xs ys r s (λ n. sym (node_found xs n) ∙ h n ∙ node_found ys n)

-- a fact is found with its name
fact_found : (fs : List Fact) (n : Name) → item_of (λ f. f.node) fs n ≡ option_map (λ v. record { node = n; value = v }) (fact_in fs n)
fact_found [] n = refl
fact_found (f ∷ fs) n = by (name_eq f.node n) refl (fact_found fs n) where
  by : (b : Bool) → name_eq f.node n ≡ b → item_of (λ f. f.node) fs n ≡ option_map (λ v. record { node = n; value = v }) (fact_in fs n)
      → (if b then Some f else item_of (λ f. f.node) fs n) ≡ option_map (λ v. record { node = n; value = v }) (if b then Some f.value else fact_in fs n)
  by true e h = ap (λ (k : Name). Some (record { node = k; value = f.value })) (name_same f.node n e)
  by false e h = h

pub one_fired : (fs gs : List Fact) → IsStrictlySortedBy name_cmp (map (λ f. f.node) fs) → IsStrictlySortedBy name_cmp (map (λ f. f.node) gs) → ((n : Name) → fact_in fs n ≡ fact_in gs n) → fs ≡ gs
one_fired fs gs r s h =
    one_list (λ f. f.node) fs gs r s (λ n.
    fact_found fs n ∙ ap (option_map (λ (v : Val). let f : Fact = record { node = n; value = v } in f)) (h n) ∙ sym (fact_found gs n))
