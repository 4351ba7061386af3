-- Places that were visited.
use Rattle.std.proofs.Common.{◌≡◌, ◌≢◌, ℕ, ◌+◌, ◌<◌, ◌≤◌, Bool, true, false, cond, eqb, ◌||◌, List, [], ◌∷◌, ◌++◌, length, length-append, get_or, get_or-set_other, set, suc, zero, refl, sym, ap, ◌∙◌, subst, arith, inl, inr, ◌⊎◌}
use mathlib.Core.Bool.{true≢false}
use Rattle.std.specs.List.{list_any, IsDistinct, AllByRecursion}
use Rattle.std.proofs.Common.{map}
use Rattle.std.proofs.Math.Seq.{get_or-append_seam}
use Rattle.std.proofs.lemmas.List.{get_or_append_left, get_or-set_same, get_or-map}
use Rattle.std.proofs.lemmas.Map.Steps.{length-le_from_distinct_below}
use Rattle.std.proofs.lemmas.Grind.{common_steps}
use Rattle.std.proofs.lemmas.Bool.{cases_eq, cases_lt}
use Rattle.std.proofs.lemmas.Bool.Decides.{nat_tests}
use Rattle.frp_base.proofs.Booleans.{bool_cases}
use Rattle.frp_rank.specs.declared.visit.Visit.{Visit}
use Rattle.frp_rank.specs.declared.edge.Edge.{Edge}
use Rattle.frp_rank.specs.declared.search.Search.{Search}
use Rattle.frp_rank.specs.Chain.{Link, is_linked}
use Rattle.frp_rank.specs.Graph.{live_links}
use Rattle.frp_rank.specs.Search.{has_visit, visit_at, no_visit, IsSearch, LeadsOn, Grows, is_close}

-- the visit of a number
pub visited_at : (visits : List Visit) (j : ℕ) → j < length visits → has_visit visits (visit_at visits j).place ≡ true
visited_at [] j h = absurd (omega arith)
visited_at (v ∷ vs) zero h = grind (arith, nat_tests)
visited_at (v ∷ vs) (suc j) h = let e = visited_at vs j (omega arith) in grind (arith, nat_tests, e)

-- a visited place has a visit of some number
pub visit_of : (visits : List Visit) (p : ℕ) → has_visit visits p ≡ true → (j : ℕ) × (j < length visits) × ((visit_at visits j).place ≡ p)
visit_of [] p h = absurd (true≢false (sym h))
visit_of (v ∷ vs) p h = elim (cases_eq v.place p) [
  | inl e ↦ (0, omega arith, e)
  | inr e ↦ let r : (j : ℕ) × (j < length vs) × ((visit_at vs j).place ≡ p) = visit_of vs p (grind (arith, nat_tests)) in (suc r.0, omega arith, r.2)
]

-- the number that a place has tells whether it was visited
pub slot_tells : (slots : List ℕ) (visits : List Visit) (p : ℕ) → ((j : ℕ) → j < length visits → get_or slots (visit_at visits j).place 0 ≡ j) → get_or slots p 0 < length visits
    → eqb (visit_at visits (get_or slots p 0)).place p ≡ has_visit visits p
slot_tells slots visits p f h = elim (bool_cases (has_visit visits p)) [
  | inl t ↦
      let r : (j : ℕ) × (j < length visits) × ((visit_at visits j).place ≡ p) = visit_of visits p t in
      let s : get_or slots p 0 ≡ r.0 = ap (λ q. get_or slots q 0) (sym r.2) ∙ f r.0 r.1 in
      let q : (visit_at visits (get_or slots p 0)).place ≡ p = ap (λ i. (visit_at visits i).place) s ∙ r.2 in
      grind (arith, nat_tests, q, t)
  | inr n ↦ elim (cases_eq (visit_at visits (get_or slots p 0)).place p) [
    | inl q ↦ absurd (true≢false (sym (subst (λ t. has_visit visits t ≡ true) q (visited_at visits (get_or slots p 0) h)) ∙ n))
    | inr q ↦ grind (arith, nat_tests, n)
  ]
]

pub slot_past : (slots : List ℕ) (visits : List Visit) (p : ℕ) → ((j : ℕ) → j < length visits → get_or slots (visit_at visits j).place 0 ≡ j) → length visits ≤ get_or slots p 0 → has_visit visits p ≡ false
slot_past slots visits p f h = elim (bool_cases (has_visit visits p)) [
  | inl t ↦
      let r : (j : ℕ) × (j < length visits) × ((visit_at visits j).place ≡ p) = visit_of visits p t in
      let s : get_or slots p 0 ≡ r.0 = ap (λ q. get_or slots q 0) (sym r.2) ∙ f r.0 r.1 in
      let l : r.0 < length visits = r.1 in
      absurd (omega arith)
  | inr n ↦ n
]

-- One visit more.

pub still_visited : (visits : List Visit) (v : Visit) (p : ℕ) → has_visit visits p ≡ true → has_visit (visits ++ v ∷ []) p ≡ true
still_visited [] v p h = absurd (true≢false (sym h))
still_visited (w ∷ ws) v p h = elim (cases_eq w.place p) [ inl e ↦ grind (arith, nat_tests) | inr e ↦ let r = still_visited ws v p (grind (arith, nat_tests)) in grind (arith, nat_tests, r) ]

pub now_visited : (visits : List Visit) (v : Visit) → has_visit (visits ++ v ∷ []) v.place ≡ true
now_visited [] v = grind (arith, nat_tests)
now_visited (w ∷ ws) v = let r = now_visited ws v in grind (arith, nat_tests, r)

pub grows_refl : (visits : List Visit) → Grows visits visits
grows_refl visits = record { longer = omega arith; same = λ j h. refl }

pub grows_trans : (a b c : List Visit) → Grows a b → Grows b c → Grows a c
grows_trans a b c g h = record { longer = let l = g.longer in let m = h.longer in omega arith; same = λ j k. h.same j (let l = g.longer in omega arith) ∙ g.same j k }

pub grows_push : (visits : List Visit) (v : Visit) → Grows visits (visits ++ v ∷ [])
grows_push visits v = record { longer = omega (arith, length-append visits (v ∷ [])); same = λ j h. get_or_append_left visits (v ∷ []) no_visit j h }

-- what was visited stays so
pub grown : (old new : List Visit) (p : ℕ) → Grows old new → has_visit old p ≡ true → has_visit new p ≡ true
grown old new p g h =
    let r : (j : ℕ) × (j < length old) × ((visit_at old j).place ≡ p) = visit_of old p h in
    let l : r.0 < length new = (let m = g.longer in let n = r.1 in omega arith) in
    subst (λ q. has_visit new q ≡ true) (ap (λ (v : Visit). v.place) (g.same r.0 r.1) ∙ r.2) (visited_at new r.0 l)

still_leads_on : (links : List Link) (from : ℕ) (visits : List Visit) (v w : Visit) → LeadsOn links from visits w → LeadsOn links from (visits ++ v ∷ []) w
still_leads_on links from visits v w (inl e) = inl e
still_leads_on links from visits v w (inr (l, h)) = inr (l, still_visited visits v w.through h)

pub search_more : (s : Search) (slots : List ℕ) (visits : List Visit) (v : Visit) → IsSearch s slots visits → v.place < length s.ranks.now.items → has_visit visits v.place ≡ false
    → LeadsOn (live_links s.edges.now.items) s.from visits v → IsSearch s (set slots v.place (length visits)) (visits ++ v ∷ [])
search_more s slots visits v r inside new leads = record {
  slots_length = let e = r.slots_length in grind (arith, common_steps, e);
  start = still_visited visits v s.from r.start;
  inside = λ j h. elim (at j h) [ inl l ↦ rw (early j l) (r.inside j l) | inr l ↦ rw (last j l) inside ];
  slot = λ j h. elim (at j h) [
    | inl l ↦ rw (early j l) (get_or-set_other slots v.place (visit_at visits j).place (length visits) 0 (apart j l) ∙ r.slot j l)
    | inr l ↦ rw (last j l) (get_or-set_same slots v.place (length visits) 0 (let e = r.slots_length in omega arith) ∙ sym l)
  ];
  hops = λ j h. elim (at j h) [
    | inl l ↦ rw (early j l) (still_leads_on (live_links s.edges.now.items) s.from visits v (visit_at visits j) (r.hops j l))
    | inr l ↦ rw (last j l) (still_leads_on (live_links s.edges.now.items) s.from visits v v leads)
  ];
} where
  at : (j : ℕ) → j < length (visits ++ v ∷ []) → (j < length visits) ⊎ (j ≡ length visits)
  at j h = elim (cases_lt j (length visits)) [ inl l ↦ inl l | inr l ↦ inr (let e = length-append visits (v ∷ []) in omega arith) ]

  early : (j : ℕ) → j < length visits → visit_at (visits ++ v ∷ []) j ≡ visit_at visits j
  early j l = get_or_append_left visits (v ∷ []) no_visit j l

  last : (j : ℕ) → j ≡ length visits → visit_at (visits ++ v ∷ []) j ≡ v
  last j l = ap (visit_at (visits ++ v ∷ [])) l ∙ get_or-append_seam visits v [] no_visit

  apart : (j : ℕ) → j < length visits → (visit_at visits j).place ≢ v.place
  apart j l e = true≢false (sym (subst (λ p. has_visit visits p ≡ true) e (visited_at visits j l)) ∙ new)

-- the search begins with one visit
pub search_first : (s : Search) (slots : List ℕ) → length slots ≡ length s.ranks.now.items → s.from < length s.ranks.now.items → IsSearch s (set slots s.from 0) ((record { place = s.from; through = s.from }) ∷ [])
search_first s slots h l = record {
  slots_length = grind (arith, common_steps, h);
  start = grind (arith, nat_tests);
  inside = λ j k. rw (first j k) l;
  slot = λ j k. rw (first j k) (get_or-set_same slots s.from 0 0 (omega arith) ∙ zero_is j k);
  hops = λ j k. rw (first j k) (inl refl);
} where
  zero_is : (j : ℕ) → j < 1 → 0 ≡ j
  zero_is j k = omega arith

  first : (j : ℕ) → j < 1 → visit_at ((record { place = s.from; through = s.from }) ∷ []) j ≡ record { place = s.from; through = s.from }
  first zero k = refl
  first (suc j) k = absurd (omega arith)

-- No place is visited twice, so there are no more visits than places.

never_again : (f : ℕ → ℕ) (xs : List ℕ) (n x : ℕ) → ((j : ℕ) → j < length xs → f (get_or xs j 0) ≡ n + j) → f x < n → AllByRecursion (λ y. eqb x y ≡ false) xs
never_again f [] n x h l = tt
never_again f (y ∷ ys) n x h l = (
  elim (cases_eq x y) [ inl e ↦ let a : f y ≡ n + 0 = h 0 (omega arith) in let b : f x ≡ f y = ap f e in absurd (omega arith) | inr e ↦ grind (arith, nat_tests) ],
  never_again f ys (n + 1) x (λ j k. let a : f (get_or ys j 0) ≡ n + suc j = h (suc j) (omega arith) in omega arith) (omega arith),
)

distinct_by : (f : ℕ → ℕ) (xs : List ℕ) (n : ℕ) → ((j : ℕ) → j < length xs → f (get_or xs j 0) ≡ n + j) → IsDistinct eqb xs
unfolding IsDistinct
distinct_by f [] n h = tt
distinct_by f (x ∷ xs) n h = (never_again f xs (n + 1) x (λ j k. let a : f (get_or xs j 0) ≡ n + suc j = h (suc j) (omega arith) in omega arith) (let a : f x ≡ n + 0 = h 0 (omega arith) in omega arith), distinct_by f xs (n + 1) (λ j k. let a : f (get_or xs j 0) ≡ n + suc j = h (suc j) (omega arith) in omega arith))

abbrev places_of : List Visit → List ℕ
places_of = map (λ (v : Visit). v.place)

place_in : (visits : List Visit) (q : ℕ) → list_any (eqb q) (places_of visits) ≡ true → has_visit visits q ≡ true
place_in [] q h = absurd (true≢false (sym h))
place_in (v ∷ vs) q h = elim (cases_eq v.place q) [ inl e ↦ grind (arith, nat_tests) | inr e ↦ let r = place_in vs q (grind (arith, nat_tests)) in grind (arith, nat_tests, r) ]

pub few_visits : (s : Search) (slots : List ℕ) (visits : List Visit) → IsSearch s slots visits → length visits ≤ length s.ranks.now.items
few_visits s slots visits r = omega (arith, length-map, bound) where
  at : (j : ℕ) → j < length visits → get_or (places_of visits) j 0 ≡ (visit_at visits j).place
  at j l = get_or-map (λ (v : Visit). v.place) visits j no_visit 0 l

  length-map : length (places_of visits) ≡ length visits
  length-map = grind (arith, common_steps)

  plain : (j : ℕ) → j ≡ 0 + j
  plain j = omega arith

  distinct : IsDistinct eqb (places_of visits)
  distinct = distinct_by (λ p. get_or slots p 0) (places_of visits) 0 (λ j l. let k : j < length visits = omega (arith, length-map) in ap (λ p. get_or slots p 0) (at j k) ∙ r.slot j k ∙ plain j)

  bound : length (places_of visits) ≤ length s.ranks.now.items
  bound = length-le_from_distinct_below (places_of visits) (length s.ranks.now.items) distinct (λ q h. let v : (j : ℕ) × (j < length visits) × ((visit_at visits j).place ≡ q) = visit_of visits q (place_in visits q h) in subst (λ p. p < length s.ranks.now.items) v.2 (r.inside v.0 v.1))

-- what is close is a link
pub close_lives : (ranks : List ℕ) (by : ℕ) (e : Edge) → is_close ranks by e ≡ true → e.live ≡ true
close_lives ranks by e h = elim (bool_cases e.live) [ inl t ↦ t | inr f ↦ absurd (grind (arith, nat_tests, f)) ]

-- the visit of a visited place, by the number that the place has
pub record Found (s : Search) (slots : List ℕ) (visits : List Visit) (p : ℕ) : Type 0 where
  pub inside : p < length slots
  pub slot : get_or slots p 0 < length visits
  pub place : (visit_at visits (get_or slots p 0)).place ≡ p
  pub leads : LeadsOn (live_links s.edges.now.items) s.from visits (visit_at visits (get_or slots p 0))

pub found : (s : Search) (slots : List ℕ) (visits : List Visit) (p : ℕ) → IsSearch s slots visits → has_visit visits p ≡ true → Found s slots visits p
found s slots visits p r h =
    let v : (j : ℕ) × (j < length visits) × ((visit_at visits j).place ≡ p) = visit_of visits p h in
    let e : get_or slots p 0 ≡ v.0 = ap (λ q. get_or slots q 0) (sym v.2) ∙ r.slot v.0 v.1 in
    record {
      inside = let i : p < length s.ranks.now.items = subst (λ q. q < length s.ranks.now.items) v.2 (r.inside v.0 v.1) in let l = r.slots_length in omega arith;
      slot = let l = v.1 in omega arith;
      place = rw e v.2;
      leads = rw e (r.hops v.0 v.1);
    }
