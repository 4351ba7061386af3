-- From no closed chain to ranks: each way along links ends, and so there are numbers that fall along them.
use Rattle.std.proofs.Common.{◌≡◌, ◌⊎◌, ℕ, zero, suc, ◌+◌, ◌<◌, ◌≤◌, Bool, true, false, List, [], ◌∷◌, ◌++◌, length, refl, sym, ap, ◌∙◌, subst, arith}
use Rattle.std.proofs.Common.{inl, inr}
use Rattle.std.specs.Prelude.{not, ◌||◌}
use Rattle.std.specs.List.{list_any, list_all}
use Rattle.std.proofs.lemmas.List.{length_push}
use Rattle.frp_base.specs.declared.name.Name.{Name}
use Rattle.frp_base.specs.Name.{name_eq}
use Rattle.frp_base.proofs.Booleans.{both_true, true_both, either_true, or_more}
use Rattle.frp_graph.specs.Links.{is_path, are_distinct, is_closed_chain}
use Rattle.frp_graph.proofs.Lists.{name_same, name_eq-same}
use Rattle.frp_graph.proofs.Turns.{rings_turn}

-- Names in lists.

abbrev pub In : Name → List Name → Type 0
In n [] = ⊥
In n (k ∷ ks) = (n ≡ k) ⊎ In n ks

abbrev pub Distinct : List Name → Type 0
Distinct [] = Unit {0}
Distinct (n ∷ ns) = (In n ns → ⊥) × Distinct ns

pub in_or_not : (n : Name) (ns : List Name) → In n ns ⊎ (In n ns → ⊥)
in_or_not n [] = inr (λ h. h)
in_or_not n (k ∷ ks) = by (name_eq n k) refl (in_or_not n ks) where
  by : (b : Bool) → name_eq n k ≡ b → In n ks ⊎ (In n ks → ⊥) → In n (k ∷ ks) ⊎ (In n (k ∷ ks) → ⊥)
  by true e r = inl (inl (name_same n k e))
  by false e (inl r) = inl (inr r)
  by false e (inr r) = inr (λ h. elim h [
    | inl s ↦ (let t : name_eq n k ≡ true = subst (λ j. name_eq n j ≡ true) s (name_eq-same n) in cc)
    | inr t ↦ r t
  ])

-- a list without one of its names
without : (n : Name) (ns : List Name) → In n ns → (ms : List Name) × (length ns ≡ suc (length ms)) × ((k : Name) → In k ns → (k ≡ n → ⊥) → In k ms)
without n [] h = absurd h
without n (k ∷ ks) (inl e) = (ks, refl, λ j i d. elim i [ inl s ↦ absurd (d (s ∙ sym e)) | inr t ↦ t ])
without n (k ∷ ks) (inr r) =
    let w = without n ks r in
    (k ∷ w.0, ap suc w.1, λ j i d. elim i [ inl s ↦ inl s | inr t ↦ inr (w.2 j t d) ])

-- distinct names that are all among others are no more than they
pub no_more : (ns ms : List Name) → Distinct ns → ((k : Name) → In k ns → In k ms) → length ns ≤ length ms
no_more [] ms d f = omega arith
no_more (n ∷ ns) ms d f =
    let w = without n ms (f n (inl refl)) in
    let rest : length ns ≤ length w.0 = no_more ns w.0 d.1 (λ k i. w.2 k (f k (inr i)) (λ e. d.0 (subst (λ j. In j ns) e i))) in
    let l : length ms ≡ suc (length w.0) = w.1 in
    omega arith

pub in_push : (k n : Name) (ns : List Name) → In k (ns ++ n ∷ []) → In k ns ⊎ (k ≡ n)
in_push k n [] (inl e) = inr e
in_push k n [] (inr h) = absurd h
in_push k n (m ∷ ns) (inl e) = inl (inl e)
in_push k n (m ∷ ns) (inr h) = elim (in_push k n ns h) [ inl i ↦ inl (inr i) | inr e ↦ inr e ]

pub distinct_push : (n : Name) (ns : List Name) → Distinct ns → (In n ns → ⊥) → Distinct (ns ++ n ∷ [])
distinct_push n [] d f = (λ h. h, tt)
distinct_push n (m ∷ ns) d f = (
  λ h. elim (in_push m n ns h) [ inl i ↦ d.0 i | inr e ↦ f (inl (sym e)) ],
  distinct_push n ns d.1 (λ i. f (inr i)),
)

-- the tests say so
other_all : (n : Name) (ns : List Name) → (In n ns → ⊥) → list_all (λ k. not (name_eq n k)) ns ≡ true
other_all n [] f = refl
other_all n (k ∷ ks) f = true_both _ _ (by (name_eq n k) (λ e. f (inl (name_same n k e)))) (other_all n ks (λ h. f (inr h))) where
  by : (b : Bool) → (b ≡ true → ⊥) → not b ≡ true
  by true g = absurd (g refl)
  by false g = refl

pub distinct_test : (ns : List Name) → Distinct ns → are_distinct ns ≡ true
distinct_test [] d = refl
distinct_test (n ∷ ns) d = true_both _ _ (other_all n ns d.0) (distinct_test ns d.1)

pub distinct_back : (xs ys : List Name) → Distinct (xs ++ ys) → Distinct ys
distinct_back [] ys d = d
distinct_back (x ∷ xs) ys d = distinct_back xs ys d.1

in_front : (k n : Name) (ns : List Name) → In k ns → In k (ns ++ n ∷ [])
in_front k n [] h = absurd h
in_front k n (m ∷ ns) (inl e) = inl e
in_front k n (m ∷ ns) (inr r) = inr (in_front k n ns r)

pub distinct_front : (n : Name) (ns : List Name) → Distinct (ns ++ n ∷ []) → Distinct ns
distinct_front n [] d = tt
distinct_front n (m ∷ ns) d = (λ h. d.0 (in_front m n ns h), distinct_front n ns d.1)

-- where a name stands in a list
pub parts_at : (n : Name) (ns : List Name) → In n ns → (front back : List Name) × (ns ≡ front ++ n ∷ back)
parts_at n [] h = absurd h
parts_at n (k ∷ ks) (inl e) = ([], ks, ap (λ j. j ∷ ks) (sym e))
parts_at n (k ∷ ks) (inr r) = let p = parts_at n ks r in (k ∷ p.0, p.1, ap (λ js. k ∷ js) p.2)

-- Ways along links.

module _ (linked : Name → Name → Bool) where
  -- each way from a name along links has fewer than k of them
  abbrev pub Low : ℕ → Name → Type 0
  Low zero n = ⊥
  Low (suc k) n = (m : Name) → linked n m ≡ true → Low k m

  pub path_back : (xs ys : List Name) (end : Name) → is_path linked (xs ++ ys) end ≡ true → is_path linked ys end ≡ true
  path_back [] ys end h = h
  path_back (x ∷ xs) ys end h = path_back xs ys end (both_true _ _ h).1

  pub path_push : (xs : List Name) (n m : Name) → is_path linked xs n ≡ true → linked n m ≡ true → is_path linked (xs ++ n ∷ []) m ≡ true
  path_push [] n m h l = true_both _ _ l refl
  path_push (x ∷ []) n m h l = true_both _ _ (both_true _ _ h).0 (path_push [] n m refl l)
  path_push (x ∷ y ∷ xs) n m h l = let p = both_true _ _ h in true_both _ _ p.0 (path_push (y ∷ xs) n m p.1 l)

  -- a ring of distinct names gives a closed chain
  no_ring : ((ns : List Name) → is_closed_chain linked ns ≡ false) → (m : Name) (back : List Name)
      → Distinct (m ∷ back) → is_path linked (m ∷ back) m ≡ true → ⊥
  no_ring none m back d p =
      let t = rings_turn linked (m ∷ back) (true_both _ _ (distinct_test (m ∷ back) d) p) in
      let c : is_closed_chain linked t.chain ≡ true = t.closed in
      let f = none t.chain in
      cc

  module _ (names : List Name) (sources : (a b : Name) → linked a b ≡ true → In a names) (none : (ns : List Name) → is_closed_chain linked ns ≡ false) where
    among : (xs : List Name) (n : Name) → ((j : Name) → In j xs → In j names) → (m : Name) → linked n m ≡ true → (j : Name) → In j (xs ++ n ∷ []) → In j names
    among xs n f m link j h = elim (in_push j n xs h) [ inl i ↦ f j i | inr e ↦ subst (λ j. In j names) (sym e) (sources n m link) ]

    low_from : (k : ℕ) (xs : List Name) (n : Name) → Distinct (xs ++ n ∷ []) → ((j : Name) → In j xs → In j names) → is_path linked xs n ≡ true
        → length names < length xs + k → Low k n
    low_from zero xs n d f p l =
        let few : length xs ≤ length names = no_more xs names (distinct_front n xs d) f in
        absurd (omega arith)
    low_from (suc k) xs n d f p l = λ m link. elim (in_or_not m (xs ++ n ∷ [])) [
      | inl i ↦
          let at = parts_at m (xs ++ n ∷ []) i in
          let whole : is_path linked (at.0 ++ m ∷ at.1) m ≡ true = subst (λ ns. is_path linked ns m ≡ true) at.2 (path_push xs n m p link) in
          absurd (no_ring none m at.1 (distinct_back at.0 (m ∷ at.1) (subst Distinct at.2 d)) (path_back at.0 (m ∷ at.1) m whole))
      | inr o ↦
          let more : length (xs ++ n ∷ []) ≡ length xs + 1 = length_push xs n in
          low_from k (xs ++ n ∷ []) m (distinct_push m (xs ++ n ∷ []) d o) (among xs n f m link) (path_push xs n m p link) (omega arith)
    ]

    pub low : (n : Name) → Low (suc (length names)) n
    low n = low_from (suc (length names)) [] n (λ h. h, tt) (λ j h. absurd h) refl (omega arith)

-- Ranks: a number for each name, which falls along links.

module _ (links : Name → List Name) where
  abbrev pub is_link : Name → Name → Bool
  is_link from to = list_any (λ n. name_eq n to) (links from)

  -- more than each of these
  abbrev above_all : (Name → ℕ) → List Name → ℕ
  above_all f [] = 0
  above_all f (n ∷ ns) = f n + 1 + above_all f ns

  abbrev pub depth : ℕ → Name → ℕ
  depth zero n = 0
  depth (suc k) n = above_all (depth k) (links n)

  is_above : (f : Name → ℕ) (ns : List Name) (m : Name) → list_any (λ n. name_eq n m) ns ≡ true → f m < above_all f ns
  is_above f [] m h = absurd cc
  is_above f (n ∷ ns) m h = elim (either_true (name_eq n m) _ h) [
    | inl e ↦ (let same : f n ≡ f m = ap f (name_same n m e) in omega arith)
    | inr r ↦ (let rest : f m < above_all f ns = is_above f ns m r in omega arith)
  ]

  all_same : (f g : Name → ℕ) (ns : List Name) → ((m : Name) → list_any (λ n. name_eq n m) ns ≡ true → f m ≡ g m) → above_all f ns ≡ above_all g ns
  all_same f g [] h = refl
  all_same f g (n ∷ ns) h =
      let here : f n ≡ g n = h n (subst (λ b. b || list_any (λ k. name_eq k n) ns ≡ true) (sym (name_eq-same n)) refl) in
      let rest : above_all f ns ≡ above_all g ns = all_same f g ns (λ m i. h m (or_more (name_eq n m) _ i)) in
      omega arith

  -- more steps change nothing once all ways have ended
  stable : (k : ℕ) (n : Name) → Low is_link k n → depth (suc k) n ≡ depth k n
  stable zero n h = absurd h
  stable (suc k) n h = all_same (depth (suc k)) (depth k) (links n) (λ m i. stable k m (h m i))

  pub falls : (k : ℕ) (n m : Name) → Low is_link (suc k) n → is_link n m ≡ true → depth (suc k) m < depth (suc k) n
  falls k n m h l =
      let same : depth (suc k) m ≡ depth k m = stable k m (h m l) in
      let less : depth k m < depth (suc k) n = is_above (depth k) (links n) m l in
      omega arith
