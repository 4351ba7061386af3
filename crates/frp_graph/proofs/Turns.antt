-- A ring of names, turned to begin with its least name.
use Rattle.std.proofs.Common.{◌≡◌, ◌⊎◌, Bool, true, false, List, [], ◌∷◌, ◌++◌, refl, sym, ap, ◌∙◌, subst}
use Rattle.std.proofs.Common.{inl, inr}
use Rattle.std.specs.Prelude.{not, ◌&&◌}
use Rattle.std.specs.List.{list_all}
use Rattle.std.specs.Ordering.{is_lt}
use Rattle.std.specs.declared.cmp.Ordering.TheVariants.{Less, Equal}
use Rattle.std.proofs.lemmas.List.{append-nil}
use Rattle.frp_base.specs.declared.name.Name.{Name}
use Rattle.frp_base.specs.Name.{name_eq, name_cmp}
use Rattle.frp_base.proofs.OrderLemmas.{name_cmp-total, name_cmp-transitive}
use Rattle.frp_base.proofs.Booleans.{both_true, true_both}
use Rattle.frp_graph.specs.Links.{first_or, is_path, are_distinct, is_closed_chain}
use Rattle.frp_graph.specs.Laws.{IsTurn, is_ring, TurnsToChain}
use Rattle.frp_graph.proofs.Lists.{name_same, name_eq-same}
use Rattle.frp_graph.proofs.Order.{lt_less, name_cmp-same}

-- Names in lists.

abbrev In : Name → List Name → Type 0
In n [] = ⊥
In n (k ∷ ks) = (n ≡ k) ⊎ In n ks

abbrev Distinct : List Name → Type 0
Distinct [] = Unit {0}
Distinct (n ∷ ns) = (In n ns → ⊥) × Distinct ns

in_left : (n : Name) (xs ys : List Name) → In n xs → In n (xs ++ ys)
in_left n [] ys h = absurd h
in_left n (x ∷ xs) ys h = elim h [ inl e ↦ inl e | inr r ↦ inr (in_left n xs ys r) ]

in_right : (n : Name) (xs ys : List Name) → In n ys → In n (xs ++ ys)
in_right n [] ys h = h
in_right n (x ∷ xs) ys h = inr (in_right n xs ys h)

in_either : (n : Name) (xs ys : List Name) → In n (xs ++ ys) → In n xs ⊎ In n ys
in_either n [] ys h = inr h
in_either n (x ∷ xs) ys h = elim h [ inl e ↦ inl (inl e) | inr r ↦ elim (in_either n xs ys r) [ inl a ↦ inl (inr a) | inr b ↦ inr b ] ]

in_turned : (n : Name) (xs ys : List Name) → In n (xs ++ ys) → In n (ys ++ xs)
in_turned n xs ys h = elim (in_either n xs ys h) [ inl a ↦ in_right n ys xs a | inr b ↦ in_left n ys xs b ]

left_distinct : (xs ys : List Name) → Distinct (xs ++ ys) → Distinct xs
left_distinct [] ys d = tt
left_distinct (x ∷ xs) ys d = (λ h. d.0 (in_left x xs ys h), left_distinct xs ys d.1)

right_distinct : (xs ys : List Name) → Distinct (xs ++ ys) → Distinct ys
right_distinct [] ys d = d
right_distinct (x ∷ xs) ys d = right_distinct xs ys d.1

apart : (xs ys : List Name) → Distinct (xs ++ ys) → (n : Name) → In n xs → In n ys → ⊥
apart [] ys d n a b = a
apart (x ∷ xs) ys d n a b = elim a [ inl e ↦ d.0 (in_right x xs ys (subst (λ k. In k ys) e b)) | inr r ↦ apart xs ys d.1 n r b ]

join : (xs ys : List Name) → Distinct xs → Distinct ys → ((n : Name) → In n xs → In n ys → ⊥) → Distinct (xs ++ ys)
join [] ys a b f = b
join (x ∷ xs) ys a b f = (λ h. elim (in_either x xs ys h) [ inl l ↦ a.0 l | inr r ↦ f x (inl refl) r ], join xs ys a.1 b (λ n l r. f n (inr l) r))

distinct_turned : (xs ys : List Name) → Distinct (xs ++ ys) → Distinct (ys ++ xs)
distinct_turned xs ys d = join ys xs (right_distinct xs ys d) (left_distinct xs ys d) (λ n a b. apart xs ys d n b a)

-- the tests say so
abbrev other : Name → Name → Bool
other n k = not (name_eq n k)

not_in : (n : Name) (ns : List Name) → list_all (other n) ns ≡ true → In n ns → ⊥
not_in n [] t h = h
not_in n (k ∷ ks) t h =
    let b = both_true (other n k) (list_all (other n) ks) t in
    elim h [ inl e ↦ (let s : name_eq n k ≡ true = subst (λ j. name_eq n j ≡ true) e (name_eq-same n) in let f : other n k ≡ false = rw s refl in cc) | inr r ↦ not_in n ks b.1 r ]

by_other : (b : Bool) → (b ≡ true → ⊥) → not b ≡ true
by_other true f = absurd (f refl)
by_other false f = refl

all_other : (n : Name) (ns : List Name) → (In n ns → ⊥) → list_all (other n) ns ≡ true
all_other n [] f = refl
all_other n (k ∷ ks) f = true_both (other n k) (list_all (other n) ks) (by_other (name_eq n k) (λ e. f (inl (name_same n k e)))) (all_other n ks (λ h. f (inr h)))

distinct_is : (ns : List Name) → are_distinct ns ≡ true → Distinct ns
distinct_is [] t = tt
distinct_is (n ∷ ns) t = let b = both_true (list_all (other n) ns) (are_distinct ns) t in (not_in n ns b.0, distinct_is ns b.1)

is_distinct : (ns : List Name) → Distinct ns → are_distinct ns ≡ true
is_distinct [] d = refl
is_distinct (n ∷ ns) d = true_both (list_all (other n) ns) (are_distinct ns) (all_other n ns d.0) (is_distinct ns d.1)

all_below : (n : Name) (ns : List Name) → ((k : Name) → In k ns → name_cmp n k ≡ Less) → list_all (λ k. is_lt (name_cmp n k)) ns ≡ true
all_below n [] f = refl
all_below n (k ∷ ks) f = true_both (is_lt (name_cmp n k)) (list_all (λ k. is_lt (name_cmp n k)) ks) (ap is_lt (f k (inl refl))) (all_below n ks (λ j h. f j (inr h)))

below_all : (n : Name) (ns : List Name) → list_all (λ k. is_lt (name_cmp n k)) ns ≡ true → (k : Name) → In k ns → name_cmp n k ≡ Less
below_all n [] t k h = absurd h
below_all n (j ∷ js) t k h =
    let b = both_true (is_lt (name_cmp n j)) (list_all (λ k. is_lt (name_cmp n k)) js) t in
    elim h [ inl e ↦ lt_less _ (subst (λ i. is_lt (name_cmp n i) ≡ true) (sym e) b.0) | inr r ↦ below_all n js b.1 k r ]

-- The least name.

pub record Least (ring : List Name) : Type 0 where
  pub name : Name
  pub front : List Name
  pub back : List Name
  pub is : ring ≡ front ++ name ∷ back
  pub below : (k : Name) → In k (front ++ back) → name_cmp name k ≡ Less

least : (m : Name) (ms : List Name) → Distinct (m ∷ ms) → Least (m ∷ ms)
least m [] d = record { name = m; front = []; back = []; is = refl; below = λ k h. absurd h }
least m (l ∷ ms) d = next (least l ms d.1) where
  next : Least (l ∷ ms) → Least (m ∷ l ∷ ms)
  next r = elim (name_cmp-total m r.name) [
    | inl a ↦ record {
      name = m;
      front = [];
      back = l ∷ ms;
      is = refl;
      below = λ k h. elim (in_either k r.front (r.name ∷ r.back) (subst (λ ns. In k ns) r.is h)) [
        | inl f ↦ name_cmp-transitive m r.name k a (r.below k (in_left k r.front r.back f))
        | inr b ↦ elim b [ inl e ↦ subst (λ j. name_cmp m j ≡ Less) (sym e) a | inr z ↦ name_cmp-transitive m r.name k a (r.below k (in_right k r.front r.back z)) ]
      ];
    }
    | inr o ↦ elim o [
      | inl e ↦ absurd (d.0 (subst (λ ns. In m ns) (sym r.is) (in_right m r.front (r.name ∷ r.back) (inl e))))
      | inr g ↦ record {
        name = r.name;
        front = m ∷ r.front;
        back = r.back;
        is = ap (λ ns. m ∷ ns) r.is;
        below = λ k h. elim h [ inl e ↦ subst (λ j. name_cmp r.name j ≡ Less) (sym e) g | inr z ↦ r.below k z ];
      }
    ]
  ]

-- Paths.

module _ (linked : Name → Name → Bool) where
  first_append : (xs ys : List Name) (end : Name) → first_or (xs ++ ys) end ≡ first_or xs (first_or ys end)
  first_append [] ys end = refl
  first_append (x ∷ xs) ys end = refl

  path_parts : (xs ys : List Name) (end : Name) → is_path linked (xs ++ ys) end ≡ true → (is_path linked xs (first_or ys end) ≡ true) × (is_path linked ys end ≡ true)
  path_parts [] ys end h = (refl, h)
  path_parts (x ∷ xs) ys end h =
      let b = both_true (linked x (first_or (xs ++ ys) end)) (is_path linked (xs ++ ys) end) h in
      let r = path_parts xs ys end b.1 in
      (true_both (linked x (first_or xs (first_or ys end))) (is_path linked xs (first_or ys end)) (subst (λ n. linked x n ≡ true) (first_append xs ys end) b.0) r.0, r.1)

  parts_path : (xs ys : List Name) (end : Name) → is_path linked xs (first_or ys end) ≡ true → is_path linked ys end ≡ true → is_path linked (xs ++ ys) end ≡ true
  parts_path [] ys end a b = b
  parts_path (x ∷ xs) ys end a b =
      let t = both_true (linked x (first_or xs (first_or ys end))) (is_path linked xs (first_or ys end)) a in
      true_both (linked x (first_or (xs ++ ys) end)) (is_path linked (xs ++ ys) end) (subst (λ n. linked x n ≡ true) (sym (first_append xs ys end)) t.0) (parts_path xs ys end t.1 b)

  -- the parts of a ring, one after the other or turned
  turned_path : (front back : List Name) (n m : Name) → m ≡ first_or front n → is_path linked (front ++ n ∷ back) m ≡ true → is_path linked ((n ∷ back) ++ front) n ≡ true
  turned_path front back n m e h =
      let p = path_parts front (n ∷ back) m h in
      parts_path (n ∷ back) front n (subst (λ k. is_path linked (n ∷ back) k ≡ true) e p.1) p.0

  chain_is : (n : Name) (ns : List Name) → Distinct (n ∷ ns) → ((k : Name) → In k ns → name_cmp n k ≡ Less) → is_path linked (n ∷ ns) n ≡ true → is_closed_chain linked (n ∷ ns) ≡ true
  chain_is n ns d f p = true_both (are_distinct (n ∷ ns) && list_all (λ k. is_lt (name_cmp n k)) ns) (is_path linked (n ∷ ns) n)
      (true_both (are_distinct (n ∷ ns)) (list_all (λ k. is_lt (name_cmp n k)) ns) (is_distinct (n ∷ ns) d) (all_below n ns f)) p

  least_first : (n : Name) (ns : List Name) → is_closed_chain linked (n ∷ ns) ≡ true → (k : Name) → In k ns → name_cmp n k ≡ Less
  least_first n ns h =
      let b = both_true (are_distinct (n ∷ ns) && list_all (λ k. is_lt (name_cmp n k)) ns) (is_path linked (n ∷ ns) n) h in
      below_all n ns (both_true (are_distinct (n ∷ ns)) (list_all (λ k. is_lt (name_cmp n k)) ns) b.0).1

-- A name splits a list of distinct names in one way.
split_once : (n : Name) (us bs xs ys : List Name) → Distinct (us ++ n ∷ bs) → us ++ n ∷ bs ≡ xs ++ n ∷ ys → (us ≡ xs) × (bs ≡ ys)
split_once n [] bs [] ys d e = (refl, cc)
split_once n [] bs (x ∷ xs) ys d e = let t : bs ≡ xs ++ n ∷ ys = cc in absurd (d.0 (subst (λ ns. In n ns) (sym t) (in_right n xs (n ∷ ys) (inl refl))))
split_once n (a ∷ us) bs [] ys d e = let t : a ≡ n = cc in absurd (d.0 (in_right a us (n ∷ bs) (inl t)))
split_once n (a ∷ us) bs (x ∷ xs) ys d e =
    let h : a ≡ x = cc in
    let t : us ++ n ∷ bs ≡ xs ++ n ∷ ys = cc in
    let r = split_once n us bs xs ys d.1 t in
    ((λ i. h i ∷ r.0 i), r.1)

module _ (linked : Name → Name → Bool) (m : Name) (ms : List Name) (h : is_ring linked (m ∷ ms) ≡ true) where
  names_distinct : Distinct (m ∷ ms)
  names_distinct = distinct_is (m ∷ ms) (both_true (are_distinct (m ∷ ms)) (is_path linked (m ∷ ms) m) h).0

  module _ (r : Least (m ∷ ms)) where
    parts_distinct : Distinct (r.front ++ r.name ∷ r.back)
    parts_distinct = subst Distinct r.is names_distinct

    closed : is_closed_chain linked (r.name ∷ r.back ++ r.front) ≡ true
    closed =
        let first : m ≡ first_or r.front r.name = ap (λ ns. first_or ns m) r.is ∙ first_append linked r.front (r.name ∷ r.back) m in
        let path : is_path linked (r.front ++ r.name ∷ r.back) m ≡ true = subst (λ ns. is_path linked ns m ≡ true) r.is (both_true (are_distinct (m ∷ ms)) (is_path linked (m ∷ ms) m) h).1 in
        chain_is linked r.name (r.back ++ r.front) (distinct_turned r.front (r.name ∷ r.back) parts_distinct) (λ k i. r.below k (in_turned k r.back r.front i))
        (turned_path linked r.front r.back r.name m first path)

    -- a closed chain that is a turn begins with the least name
    same_first : (n : Name) (ns : List Name) → ((k : Name) → In k (m ∷ ms) → In k (n ∷ ns)) → ((k : Name) → In k (n ∷ ns) → In k (m ∷ ms))
        → is_closed_chain linked (n ∷ ns) ≡ true → n ≡ r.name
    same_first n ns to back c =
        let here : In r.name (n ∷ ns) = to r.name (subst (λ ks. In r.name ks) (sym r.is) (in_right r.name r.front (r.name ∷ r.back) (inl refl))) in
        let there : In n (r.front ++ r.name ∷ r.back) = subst (λ ks. In n ks) r.is (back n (inl refl)) in
        elim here [
          | inl e ↦ sym e
          | inr z ↦
              let less = least_first linked n ns c r.name z in
              let more : n ≡ r.name ⊎ (name_cmp r.name n ≡ Less)
              = elim (in_either n r.front (r.name ∷ r.back) there) [
                | inl f ↦ inr (r.below n (in_left n r.front r.back f))
                | inr b ↦ elim b [ inl e ↦ inl e | inr g ↦ inr (r.below n (in_right n r.front r.back g)) ]
              ] in
              elim more [
                | inl e ↦ e
                | inr l ↦ let round : name_cmp n n ≡ Less = name_cmp-transitive n r.name n less l in let equal : name_cmp n n ≡ Equal = name_cmp-same n in absurd cc
              ]
        ]

    -- and then it splits the names where the least one stands
    same_rest : (front back ns : List Name) → m ∷ ms ≡ front ++ back → r.name ∷ ns ≡ back ++ front → ns ≡ r.back ++ r.front
    same_rest front [] ns p q =
        let e : r.front ++ r.name ∷ r.back ≡ [] ++ r.name ∷ ns = sym r.is ∙ p ∙ append-nil front ∙ sym q in
        let s = split_once r.name r.front r.back [] ns parts_distinct e in
        sym s.1 ∙ sym (append-nil r.back) ∙ ap (λ xs. r.back ++ xs) (sym s.0)
    same_rest front (k ∷ back) ns p q =
        let same : r.name ≡ k = cc in
        let rest : ns ≡ back ++ front = cc in
        let e : r.front ++ r.name ∷ r.back ≡ front ++ r.name ∷ back = sym r.is ∙ p ∙ ap (λ (j : Name). front ++ j ∷ back) (sym same) in
        let s = split_once r.name r.front r.back front back parts_distinct e in
        rest ∙ (λ i. sym s.1 i ++ sym s.0 i)

    one : (others : List Name) → IsTurn (m ∷ ms) others → is_closed_chain linked others ≡ true → others ≡ r.name ∷ r.back ++ r.front
    one [] t c = absurd cc
    one (n ∷ ns) t c =
        let to : (k : Name) → In k (m ∷ ms) → In k (n ∷ ns) = λ k i. subst (λ ks. In k ks) (sym t.put) (in_turned k t.front t.back (subst (λ ks. In k ks) t.parts i)) in
        let back : (k : Name) → In k (n ∷ ns) → In k (m ∷ ms) = λ k i. subst (λ ks. In k ks) (sym t.parts) (in_turned k t.back t.front (subst (λ ks. In k ks) t.put i)) in
        let first = same_first n ns to back c in
        let rest = same_rest t.front t.back ns t.parts (ap (λ (j : Name). j ∷ ns) (sym first) ∙ t.put) in
        (λ i. first i ∷ rest i)

    turned : TurnsToChain linked (m ∷ ms)
    turned = record { chain = r.name ∷ r.back ++ r.front; turns = record { front = r.front; back = r.name ∷ r.back; parts = r.is; put = refl }; closed = closed; one = one }

pub rings_turn : (linked : Name → Name → Bool) (ring : List Name) → is_ring linked ring ≡ true → TurnsToChain linked ring
rings_turn linked [] h = absurd cc
rings_turn linked (m ∷ ms) h = turned linked m ms h (least m ms (names_distinct linked m ms h))
