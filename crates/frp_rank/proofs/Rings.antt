-- Closed chains, wherever they begin.
use Rattle.std.proofs.Common.{◌≡◌, ℕ, ◌+◌, ◌-◌, ◌<◌, ◌≤◌, Bool, true, false, cond, eqb, ltb, List, [], ◌∷◌, ◌++◌, length, get_or, take, drop, suc, refl, sym, ap, ◌∙◌, subst, arith, inl, inr}
use mathlib.Core.Bool.{true≢false}
use Rattle.std.proofs.lemmas.Grind.{common_steps}
use Rattle.std.proofs.lemmas.Bool.{cases_eq, cases_lt}
use Rattle.std.proofs.lemmas.Bool.Decides.{nat_tests}
use Rattle.std.specs.List.{list_any, list_all}
use Rattle.std.proofs.lemmas.List.{take-append-drop}
use Rattle.std.proofs.Common.{append-nil, length-append}
use Rattle.frp_rank.specs.Chain.{first_or, is_path, are_distinct, is_closed_chain, with_link}
use Rattle.frp_rank.specs.Order.{LeadsLower}
use Rattle.frp_rank.specs.Laws.{TurnedIsClosed}
use Rattle.frp_rank.proofs.Paths.{path_falls, path_more, first_more, if_parts}

-- how often a number stands in a list
abbrev pub times : ℕ → List ℕ → ℕ
times n [] = 0
times n (k ∷ ks) = cond (eqb k n) (1 + times n ks) (times n ks)

times_append : (n : ℕ) (xs ys : List ℕ) → times n (xs ++ ys) ≡ times n xs + times n ys
times_append n [] ys = omega arith
times_append n (x ∷ xs) ys = let e = times_append n xs ys in grind (arith, e)

none_there : (n : ℕ) (ks : List ℕ) → times n ks ≡ 0 → list_any (λ k. eqb k n) ks ≡ false
none_there n [] h = refl
none_there n (k ∷ ks) h = elim (cases_eq k n) [ inl e ↦ absurd (grind (arith, nat_tests)) | inr d ↦ let r = none_there n ks (grind (arith, nat_tests)) in grind (arith, nat_tests, r) ]

distinct_once : (xs : List ℕ) → ((n : ℕ) → times n xs ≤ 1) → are_distinct xs ≡ true
distinct_once [] h = refl
distinct_once (x ∷ xs) h =
    let e = none_there x xs (let k = h x in grind (arith, nat_tests)) in
    let r = distinct_once xs (λ n. let k = h n in grind (arith, nat_tests)) in
    grind (arith, e, r)

-- a path of two parts
path_join : (linked : ℕ → ℕ → Bool) (xs ys : List ℕ) (end : ℕ) → is_path linked (xs ++ ys) end ≡ cond (is_path linked xs (first_or ys end)) (is_path linked ys end) false
path_join linked [] ys end = refl
path_join linked (x ∷ []) ys end = grind (arith)
path_join linked (x ∷ k ∷ xs) ys end = let e = path_join linked (k ∷ xs) ys end in grind (arith, e)

flip : (b c : Bool) → cond b c false ≡ true → cond c b false ≡ true
flip true c h = ap (λ b. cond b true false) h
flip false c h = absurd (true≢false (sym h))

-- a ring may be begun anywhere
pub ring_turns : (linked : ℕ → ℕ → Bool) (x y : ℕ) (xs ys : List ℕ) → is_path linked ((x ∷ xs) ++ (y ∷ ys)) x ≡ true → is_path linked ((y ∷ ys) ++ (x ∷ xs)) y ≡ true
ring_turns linked x y xs ys h = path_join linked (y ∷ ys) (x ∷ xs) y ∙ flip (is_path linked (x ∷ xs) y) (is_path linked (y ∷ ys) x) (sym (path_join linked (x ∷ xs) (y ∷ ys) x) ∙ h)

-- along a path where ranks fall, no place comes twice
lower_than : (linked : ℕ → ℕ → Bool) (rank : ℕ → ℕ) → LeadsLower linked rank → (ns : List ℕ) (end n : ℕ) → is_path linked ns end ≡ true → rank (first_or ns end) < rank n → times n ns ≡ 0
lower_than linked rank low [] end n h l = refl
lower_than linked rank low (k ∷ ks) end n h l =
    let p : (linked k (first_or ks end) ≡ true) × (is_path linked ks end ≡ true) = if_parts _ _ h in
    let d : rank (first_or ks end) < rank k = low k (first_or ks end) p.0 in
    let r : times n ks ≡ 0 = lower_than linked rank low ks end n p.1 (omega arith) in
    elim (cases_eq k n) [ inl e ↦ let f : rank k ≡ rank n = ap rank e in absurd (omega arith) | inr e ↦ grind (arith, nat_tests) ]

pub once_falling : (linked : ℕ → ℕ → Bool) (rank : ℕ → ℕ) → LeadsLower linked rank → (ns : List ℕ) (end : ℕ) → is_path linked ns end ≡ true → (n : ℕ) → times n (ns ++ end ∷ []) ≤ 1
once_falling linked rank low [] end h n = grind (arith, nat_tests)
once_falling linked rank low (k ∷ ks) end h n =
    let p : (linked k (first_or ks end) ≡ true) × (is_path linked ks end ≡ true) = if_parts _ _ h in
    let d : rank (first_or ks end) < rank k = low k (first_or ks end) p.0 in
    let f : rank end ≤ rank (first_or ks end) = path_falls linked rank low ks end p.1 in
    let r : times n (ks ++ end ∷ []) ≤ 1 = once_falling linked rank low ks end p.1 n in
    elim (cases_eq k n) [
      | inl e ↦
          let g : rank k ≡ rank n = ap rank e in
          let z : times n ks ≡ 0 = lower_than linked rank low ks end n p.1 (omega arith) in
          let a : times n (ks ++ end ∷ []) ≡ times n ks + times n (end ∷ []) = times_append n ks (end ∷ []) in
          elim (cases_eq end n) [ inl q ↦ let w : rank end ≡ rank n = ap rank q in absurd (omega arith) | inr q ↦ grind (arith, nat_tests) ]
      | inr e ↦ grind (arith, nat_tests)
    ]

pub times_turned : (n : ℕ) (xs ys : List ℕ) → times n (xs ++ ys) ≤ 1 → times n (ys ++ xs) ≤ 1
times_turned n xs ys h = let a = times_append n xs ys in let b = times_append n ys xs in omega arith

-- all others are above the least
above_least : (x : ℕ) (xs : List ℕ) → times x xs ≡ 0 → ((k : ℕ) → k < length xs → x ≤ get_or xs k 0) → list_all (λ k. ltb x k) xs ≡ true
above_least x [] z h = refl
above_least x (k ∷ ks) z h = elim (cases_eq k x) [
  | inl e ↦ absurd (grind (arith, nat_tests))
  | inr e ↦
      let here : x ≤ k = h 0 (omega arith) in
      let r : list_all (λ k. ltb x k) ks ≡ true = above_least x ks (grind (arith, nat_tests)) (λ i l. h (suc i) (omega arith)) in
      grind (arith, nat_tests, r)
]

-- a ring that begins with its least place is a closed chain
pub ring_closed : (linked : ℕ → ℕ → Bool) (x : ℕ) (xs : List ℕ) → is_path linked (x ∷ xs) x ≡ true → ((n : ℕ) → times n (x ∷ xs) ≤ 1) → ((k : ℕ) → k < length (x ∷ xs) → x ≤ get_or (x ∷ xs) k 0)
    → is_closed_chain linked (x ∷ xs) ≡ true
ring_closed linked x xs p once least =
    let d : are_distinct (x ∷ xs) ≡ true = distinct_once (x ∷ xs) once in
    let z : times x xs ≡ 0 = (let k = once x in grind (arith, nat_tests)) in
    let a : list_all (λ k. ltb x k) xs ≡ true = above_least x xs z (λ k l. least (suc k) (omega arith)) in
    ap (λ b. cond b (cond (list_all (λ k. ltb x k) xs) (is_path linked (x ∷ xs) x) false) false) d ∙ ap (λ b. cond b (is_path linked (x ∷ xs) x) false) a ∙ p

-- a path stays one with more links
pub path_wider : (linked more : ℕ → ℕ → Bool) → ((a b : ℕ) → linked a b ≡ true → more a b ≡ true) → (ns : List ℕ) (end : ℕ) → is_path linked ns end ≡ true → is_path more ns end ≡ true
path_wider linked more f [] end h = refl
path_wider linked more f (n ∷ ns) end h =
    let p : (linked n (first_or ns end) ≡ true) × (is_path linked ns end ≡ true) = if_parts _ _ h in
    ap (λ b. cond b (is_path more ns end) false) (f n (first_or ns end) p.0) ∙ path_wider linked more f ns end p.1

turned : (linked : ℕ → ℕ → Bool) (xs ys : List ℕ) (to : ℕ) → is_path linked (xs ++ ys) to ≡ true → first_or (xs ++ ys) to ≡ to → ((n : ℕ) → times n (xs ++ ys) ≤ 1)
    → 0 < length ys → ((k : ℕ) → k < length (ys ++ xs) → get_or ys 0 0 ≤ get_or (ys ++ xs) k 0) → is_closed_chain linked (ys ++ xs) ≡ true
turned linked xs [] to p f once l least = absurd (omega arith)
turned linked [] (y ∷ ys) to p f once l least =
    ring_closed linked y (ys ++ []) (subst (λ t. is_path linked (y ∷ t) y ≡ true) (sym (append-nil ys)) (subst (λ t. is_path linked (y ∷ ys) t ≡ true) (sym f) p)) (λ n. subst (λ t. times n (y ∷ t) ≤ 1) (sym (append-nil ys)) (once n)) least
turned linked (x ∷ xs) (y ∷ ys) to p f once l least =
    ring_closed linked y (ys ++ (x ∷ xs)) (ring_turns linked x y xs ys (subst (λ t. is_path linked ((x ∷ xs) ++ (y ∷ ys)) t ≡ true) (sym f) p)) (λ n. times_turned n (x ∷ xs) (y ∷ ys) (once n)) least

turned_at : (w : List ℕ) (i k : ℕ) → i < length w → k < length (drop i w ++ take i w) → ((j : ℕ) → j < length w → get_or w i 0 ≤ get_or w j 0) → get_or (drop i w) 0 0 ≤ get_or (drop i w ++ take i w) k 0
turned_at w i k hi hk least = elim (cases_lt k (length w - i)) [
  | inl h ↦ let a = least (i + k) (omega arith) in grind (arith, common_steps, a)
  | inr h ↦ let b : k - (length w - i) < i = (let e = length-append (drop i w) (take i w) in grind (arith, common_steps, e)) in let a = least (k - (length w - i)) (omega arith) in grind (arith, common_steps, a)
]

module _ (linked : ℕ → ℕ → Bool) (rank : ℕ → ℕ) (from to i : ℕ) (ns : List ℕ) (low : LeadsLower linked rank) (path : is_path linked ns from ≡ true) (first : first_or ns from ≡ to) where
  abbrev w : List ℕ
  w = ns ++ from ∷ []

  more : (a b : ℕ) → linked a b ≡ true → with_link linked from to a b ≡ true
  more a b h = grind (arith, nat_tests)

  whole : is_path (with_link linked from to) w to ≡ true
  whole = path_more (with_link linked from to) ns from to (path_wider linked (with_link linked from to) more ns from path) (grind (arith, nat_tests))

  starts : first_or w to ≡ to
  starts = first_more ns from to ∙ first

  both_halves : take i w ++ drop i w ≡ w
  both_halves = take-append-drop i w

  result : i < length w → ((k : ℕ) → k < length w → get_or w i 0 ≤ get_or w k 0) → is_closed_chain (with_link linked from to) (drop i w ++ take i w) ≡ true
  result hi least =
      turned (with_link linked from to) (take i w) (drop i w) to (rw both_halves whole) (rw both_halves starts) (λ n. rw both_halves (once_falling linked rank low ns from path n))
      (grind (arith, common_steps)) (λ k hk. turned_at w i k hi hk least)

pub turned_is_closed : TurnedIsClosed
turned_is_closed linked rank from to i ns low path first hi least = result linked rank from to i ns low path first hi least
