-- What is sorted by name: each name is found as before.
use Rattle.std.proofs.Common.{◌≡◌, ℕ, ◌<◌, ◌≤◌, ◌+◌, Bool, true, false, List, [], ◌∷◌, Option, Some, None, map, length, zero, suc, refl, sym, ap, ◌∙◌, subst, arith, inl, inr}
use Rattle.std.specs.Prelude.{◌||◌, not, is_some, option_map, slice_index_or, if◌then◌else◌}
use Rattle.std.specs.Ordering.{is_lt}
use Rattle.std.specs.declared.cmp.Ordering.{Ordering}
use Rattle.std.specs.declared.cmp.Ordering.TheVariants.{Less, Equal}
use Rattle.std.specs.Cmp.{IsTotalOrder, IsStrictWeakOrder}
use Rattle.std.specs.Fn.{Called, ComparesAs}
use Rattle.std.specs.List.{AllByRecursion, Contains, list_any, list_all, sum_by}
use Rattle.std.specs.List.Sorted.{IsStrictlySortedBy, IsSortedBy, IsPermutation}
use Rattle.std.proofs.lemmas.Cmp.{nat_cmp_total, nat_list_cmp_total, lists_total, on_total, then_total}
use Rattle.std.proofs.lemmas.Fn.{always_returns_same}
use Rattle.std.proofs.lemmas.List.Sorted.{ranks_by, sorted_far, Contains-permutation, list_any-IsPermutation, sum_by-IsPermutation}
use Rattle.std.proofs.lemmas.List.Sums.{sum_by-cons}
use denote.Ref.{Bor}
use denote.Param.Members.{Mut}
use Rattle.frp_base.specs.declared.name.Name.{Name}
use Rattle.frp_base.specs.declared.name.Stage.{Stage}
use Rattle.frp_base.specs.Name.{name_eq, name_cmp}
use Rattle.frp_base.proofs.Booleans.{both_true}
use Rattle.frp_base.proofs.OrderLemmas.{name_cmp-total}
use Rattle.frp_graph.specs.declared.trace.Node.{Node}
use Rattle.frp_graph.specs.declared.trace.Fact.{Fact}
use Rattle.frp_graph.specs.Trace.{node_in, fact_in}
use Rattle.frp_graph.specs.Links.{are_distinct}
use Rattle.frp_graph.proofs.Lists.{name_same, name_eq-same}
use Rattle.frp_graph.proofs.Order.{name_cmp-same}

name_total : IsTotalOrder name_cmp
name_total = lists_total (then_total (on_total (λ (s : Stage). s.time) nat_list_cmp_total) (on_total (λ (s : Stage). s.item) nat_cmp_total))

-- whether one comes before the other by name
abbrev pub is_before : {X : Type 0} → (X → Name) → X → X → Bool
is_before key x y = is_lt (name_cmp (key x) (key y))

-- what a sort ensures, where each call of its closure compares names
pub sorted_by_name : {X F : Type 0} {g : Mut F (Bor X × (Bor X × Unit {0})) Ordering} {f : F} (key : X → Name) (xs : List X)
    → ((lt : X → X → Bool) → IsStrictWeakOrder lt → ComparesAs g lt f → IsSortedBy lt xs)
    → ((a : Bor X × (Bor X × Unit {0})) (r : Ordering) (f' : F) → Called g f a r f' → (r ≡ name_cmp (key a.0.now) (key a.1.0.now)) × (f' ≡ f)) → IsSortedBy (is_before key) xs
sorted_by_name {g = g} {f = f} key xs up h =
    up (is_before key) (ranks_by name_total key)
    (always_returns_same g (λ a r. is_lt r ≡ is_before key a.0.now a.1.0.now) f (λ a r f' k. (ap is_lt (h a r f' k).0, (h a r f' k).1)))

-- How often a name comes.

abbrev pub weight : Bool → ℕ
weight true = 1
weight false = 0

abbrev pub counted : {X : Type 0} → (X → Name) → Name → List X → ℕ
counted key n xs = sum_by (λ x. weight (name_eq (key x) n)) xs

counted_cons : {X : Type 0} (key : X → Name) (n : Name) (x : X) (xs : List X) → counted key n (x ∷ xs) ≡ weight (name_eq (key x) n) + counted key n xs
counted_cons key n x xs = sum_by-cons (λ y. weight (name_eq (key y) n)) x xs

none_counted : {X : Type 0} (key : X → Name) (n : Name) (xs : List X) → list_all (λ k. not (name_eq n k)) (map key xs) ≡ true → counted key n xs ≡ 0
none_counted key n [] a = refl
none_counted key n (x ∷ xs) a =
    let h : counted key n xs ≡ 0 = none_counted key n xs (both_true _ _ a).1 in
    let w : weight (name_eq (key x) n) ≡ 0 = by (name_eq (key x) n) refl in
    counted_cons key n x xs ∙ omega arith
  where
    by : (b : Bool) → name_eq (key x) n ≡ b → weight b ≡ 0
    by true e =
        let s : name_eq n (key x) ≡ true = ap (name_eq n) (name_same (key x) n e) ∙ name_eq-same n in
        let t : not (name_eq n (key x)) ≡ true = (both_true _ _ a).0 in
        let u : not (name_eq n (key x)) ≡ false = ap not s in
        absurd cc
    by false e = refl

pub counted_once : {X : Type 0} (key : X → Name) (xs : List X) → are_distinct (map key xs) ≡ true → (n : Name) → counted key n xs ≤ 1
counted_once key [] d n = omega arith
counted_once key (x ∷ xs) d n = by (name_eq (key x) n) refl (counted_once key xs (both_true _ _ d).1 n) where
  by : (b : Bool) → name_eq (key x) n ≡ b → counted key n xs ≤ 1 → counted key n (x ∷ xs) ≤ 1
  by true e h =
      let none : counted key n xs ≡ 0 = none_counted key n xs (subst (λ m. list_all (λ k. not (name_eq m k)) (map key xs) ≡ true) (name_same (key x) n e) (both_true _ _ d).0) in
      let w : weight (name_eq (key x) n) ≡ 1 = ap weight e in
      let c = counted_cons key n x xs in
      omega arith
  by false e h =
      let w : weight (name_eq (key x) n) ≡ 0 = ap weight e in
      let c = counted_cons key n x xs in
      omega arith

-- What rises, and in which each name comes once, rises strictly.

above_of : {X : Type 0} (key : X → Name) (x : X) (xs : List X) → ((k : ℕ) → k < length xs → is_before key (slice_index_or xs k x) x ≡ false)
    → AllByRecursion (λ y. is_before key y x ≡ false) xs
above_of key x [] h = tt
above_of key x (y ∷ ys) h = (h 0 (omega arith), above_of key x ys (λ k p. h (suc k) (omega arith)))

strictly : {X : Type 0} (key : X → Name) (x : X) (xs : List X) → AllByRecursion (λ y. is_before key y x ≡ false) xs → counted key (key x) xs ≡ 0
    → AllByRecursion (λ m. name_cmp (key x) m ≡ Less) (map key xs)
strictly key x [] a z = tt
strictly key x (y ∷ ys) a z = (one, strictly key x ys a.1 (let c = counted_cons key (key x) y ys in omega arith)) where
  one : name_cmp (key x) (key y) ≡ Less
  one = elim (name_cmp-total (key x) (key y)) [
    | inl l ↦ l
    | inr r ↦ elim r [
      | inl same ↦
          let w : weight (name_eq (key y) (key x)) ≡ 1 = ap weight (ap (name_eq (key y)) same ∙ name_eq-same (key y)) in
          let c = counted_cons key (key x) y ys in
          absurd (omega arith)
      | inr l ↦
          let t : is_before key y x ≡ true = ap is_lt l in
          let f : is_before key y x ≡ false = a.0 in
          absurd cc
    ]
  ]

rising : {X : Type 0} (key : X → Name) (xs : List X) → ((i j : ℕ) (d : X) → i ≤ j → j < length xs → is_before key (slice_index_or xs j d) (slice_index_or xs i d) ≡ false)
    → ((n : Name) → counted key n xs ≤ 1) → IsStrictlySortedBy name_cmp (map key xs)
unfolding IsStrictlySortedBy
rising key [] far once = tt
rising key (x ∷ xs) far once =
    let w : weight (name_eq (key x) (key x)) ≡ 1 = ap weight (name_eq-same (key x)) in
    let c = counted_cons key (key x) x xs in
    let most : counted key (key x) (x ∷ xs) ≤ 1 = once (key x) in (
      strictly key x xs (above_of key x xs (λ k p. far 0 (suc k) x (omega arith) (omega arith))) (omega arith),
      rising key xs (λ i j d p q. far (suc i) (suc j) d (omega arith) (omega arith)) (λ n. let m : counted key n (x ∷ xs) ≤ 1 = once n in let e = counted_cons key n x xs in omega arith),
    )

pub sorted_rising : {X : Type 0} (key : X → Name) (old new : List X) → are_distinct (map key old) ≡ true → IsPermutation old new → IsSortedBy (is_before key) new
    → IsStrictlySortedBy name_cmp (map key new)
sorted_rising key old new d p s =
    rising key new (sorted_far (is_before key) (ranks_by name_total key) new s)
    (λ n.
    let e : counted key n new ≡ counted key n old = sum_by-IsPermutation (λ x. weight (name_eq (key x) n)) old new p in
    let m = counted_once key old d n in
    omega arith)

-- The first item of a name.

abbrev pub first_of : {X : Type 0} → (X → Name) → List X → Name → Option X
first_of key [] n = None
first_of key (x ∷ xs) n = if name_eq (key x) n then Some x else first_of key xs n

there : {X : Type 0} (key : X → Name) (xs : List X) (n : Name) → is_some (first_of key xs n) ≡ list_any (λ x. name_eq (key x) n) xs
there key [] n = refl
there key (x ∷ xs) n = by (name_eq (key x) n) (there key xs n) where
  by : (b : Bool) → is_some (first_of key xs n) ≡ list_any (λ y. name_eq (key y) n) xs → is_some (if b then Some x else first_of key xs n) ≡ b || list_any (λ y. name_eq (key y) n) xs
  by true h = refl
  by false h = h

first_is : {X : Type 0} (key : X → Name) (xs : List X) (n : Name) (x : X) → first_of key xs n ≡ Some x → Contains xs x × (name_eq (key x) n ≡ true)
first_is key [] n x e = absurd cc
first_is key (y ∷ ys) n x e = by (name_eq (key y) n) refl e (first_is key ys n x) where
  by : (b : Bool) → name_eq (key y) n ≡ b → (if b then Some y else first_of key ys n) ≡ Some x → (first_of key ys n ≡ Some x → Contains ys x × (name_eq (key x) n ≡ true))
      → Contains (y ∷ ys) x × (name_eq (key x) n ≡ true)
  by true q e f = let same : y ≡ x = cc in ((0, omega arith, same), ap (λ z. name_eq (key z) n) (sym same) ∙ q)
  by false q e f = let h = f e in ((suc h.0.0, (let l = h.0.1 in omega arith), h.0.2), h.1)

less_at : {X : Type 0} (key : X → Name) (m : Name) (xs : List X) (k : ℕ) (x : X) → AllByRecursion (λ u. name_cmp m u ≡ Less) (map key xs) → k < length xs → slice_index_or xs k x ≡ x
    → name_cmp m (key x) ≡ Less
less_at key m [] k x a l e = absurd (omega arith)
less_at key m (y ∷ ys) zero x a l e = ap (λ z. name_cmp m (key z)) (sym e) ∙ a.0
less_at key m (y ∷ ys) (suc k) x a l e = less_at key m ys k x a.1 (omega arith) e

found : {X : Type 0} (key : X → Name) (xs : List X) (k : ℕ) (x : X) (n : Name) → IsStrictlySortedBy name_cmp (map key xs) → k < length xs → slice_index_or xs k x ≡ x → name_eq (key x) n ≡ true
    → first_of key xs n ≡ Some x
unfolding IsStrictlySortedBy
found key [] k x n s l e t = absurd (omega arith)
found key (y ∷ ys) zero x n s l e t = rw (ap (λ z. name_eq (key z) n) e ∙ t) (ap (λ z. Some z) e)
found key (y ∷ ys) (suc k) x n s l e t = by (name_eq (key y) n) refl (found key ys k x n s.1 (omega arith) e t) where
  by : (b : Bool) → name_eq (key y) n ≡ b → first_of key ys n ≡ Some x → (if b then Some y else first_of key ys n) ≡ Some x
  by true q h =
      let one : key y ≡ key x = name_same (key y) n q ∙ sym (name_same (key x) n t) in
      let less : name_cmp (key x) (key x) ≡ Less = ap (λ m. name_cmp m (key x)) (sym one) ∙ less_at key (key y) ys k x s.0 (omega arith) e in
      let equal : name_cmp (key x) (key x) ≡ Equal = name_cmp-same (key x) in
      absurd cc
  by false q h = h

pub first_kept : {X : Type 0} (key : X → Name) (old new : List X) → IsPermutation old new → IsStrictlySortedBy name_cmp (map key new) → (n : Name) → first_of key new n ≡ first_of key old n
first_kept {X} key old new p s n = by (first_of key old n) refl where
  no : (o : Option X) → is_some o ≡ false → o ≡ None
  no None e = refl
  no (Some x) e = absurd cc

  by : (o : Option X) → first_of key old n ≡ o → first_of key new n ≡ o
  by None e =
      no (first_of key new n) (there key new n ∙ sym (list_any-IsPermutation (λ x. name_eq (key x) n) old new p) ∙ sym (there key old n) ∙ ap is_some e)
  by (Some x) e =
      let h = first_is key old n x e in
      let c = Contains-permutation old new x p h.0 in
      found key new c.0 x n s c.1 c.2 h.1

-- Facts and nodes.

fact_first : (fs : List Fact) (n : Name) → fact_in fs n ≡ option_map (λ (f : Fact). f.value) (first_of (λ (f : Fact). f.node) fs n)
fact_first [] n = refl
fact_first (f ∷ fs) n = by (name_eq f.node n) (fact_first fs n) where
  by : (b : Bool) → fact_in fs n ≡ option_map (λ (g : Fact). g.value) (first_of (λ (g : Fact). g.node) fs n)
      → (if b then Some f.value else fact_in fs n) ≡ option_map (λ (g : Fact). g.value) (if b then Some f else first_of (λ (g : Fact). g.node) fs n)
  by true h = refl
  by false h = h

pub facts_kept : (old new : List Fact) → IsPermutation old new → IsStrictlySortedBy name_cmp (map (λ (f : Fact). f.node) new) → (n : Name) → fact_in new n ≡ fact_in old n
facts_kept old new p s n = fact_first new n ∙ ap (option_map (λ (f : Fact). f.value)) (first_kept (λ (f : Fact). f.node) old new p s n) ∙ sym (fact_first old n)

node_first : (xs : List Node) (n : Name) → node_in xs n ≡ first_of (λ (x : Node). x.name) xs n
node_first [] n = refl
node_first (x ∷ xs) n = ap (λ o. if name_eq x.name n then Some x else o) (node_first xs n)

pub nodes_kept : (old new : List Node) → IsPermutation old new → IsStrictlySortedBy name_cmp (map (λ (x : Node). x.name) new) → (n : Name) → node_in new n ≡ node_in old n
nodes_kept old new p s n = node_first new n ∙ first_kept (λ (x : Node). x.name) old new p s n ∙ sym (node_first old n)
