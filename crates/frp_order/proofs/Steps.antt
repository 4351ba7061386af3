-- The steps of a search: a place comes to the path, goes to the order, or closes a ring.
use Rattle.std.proofs.Common.{◌≡◌, ◌⊎◌, ℕ, ◌<◌, ◌≤◌, ◌+◌, ◌-◌, ◌*◌, true, false, List, [], ◌∷◌, ◌++◌, length, get_or, set, take, drop, map, refl, sym, ap, ◌∙◌, subst, arith, inl, inr}
use Rattle.std.proofs.Common.{get_or-set_other, get_or-set_same}
use Rattle.std.proofs.lemmas.Bool.{cases_lt, cases_eq}
use Rattle.std.proofs.lemmas.List.{get_or_push, get_or_append_left, get_or-take, get_or-drop, get_or-map, length_push, length-set, length-take-le, length-drop, length-map, get_or_read}
use Rattle.frp_order.specs.declared.mark.Mark.{Mark}
use Rattle.frp_order.specs.declared.mark.Mark.TheVariants.{Unseen, Open, Done}
use Rattle.frp_order.specs.declared.visit.Visit.{Visit}
use Rattle.frp_order.specs.Rings.{row, IsLinked, IsRing}
use Rattle.frp_order.specs.Search.{is_unseen, is_done, no_visit, mark_at, visit_at, top_of, State, unseen, LeadsNext, IsPassed, IsSearch, Keeps, work, GoesOn}
use Rattle.frp_order.proofs.Marks.{mark_inside, done_number, open_same, done_same, mark_stays, test_stays, mark_written, mark_before, seen_stays, unseen_written}

-- below one more
split_last : (j n : ℕ) → j < n + 1 → (j < n) ⊎ (j ≡ n)
split_last j n h = elim (cases_lt j n) [ inl a ↦ inl a | inr b ↦ inr (omega arith) ]

pub keeps_refl : (s : State) → Keeps s s
keeps_refl s = record { done = λ p h. h; seen = λ p h. h }

pub keeps_trans : (s t u : State) → Keeps s t → Keeps t u → Keeps s u
keeps_trans s t u a b = record { done = λ p h. b.done p (a.done p h); seen = λ p h. b.seen p (a.seen p h) }

-- links of visits that are passed stay so
passed_stays : (rows : List (List ℕ)) (marks new : List Mark) → ((q : ℕ) → is_done (mark_at marks q) ≡ true → is_done (mark_at new q) ≡ true)
    → (v : Visit) → IsPassed rows marks v → IsPassed rows new v
passed_stays rows marks new f v h i a b = f _ (h i a b)

-- A place that was not met comes to the path.

module _ (rows : List (List ℕ)) (s : State) (search : IsSearch rows s) (p : ℕ) (inside : p < length rows) (new : mark_at s.marks p ≡ Unseen)
    (leads : 0 < length s.path → LeadsNext rows (top_of s.path) p) where
  abbrev v : Visit
  v = record { place = p; next = 0 }

  abbrev pub with_open : State
  with_open = record { marks = set s.marks p (Open (length s.path)); path = s.path ++ v ∷ []; order = s.order }

  at_marks : p < length s.marks
  at_marks = subst (λ n. p < n) (sym search.marked) inside

  old_visit : (j : ℕ) → j < length s.path → visit_at with_open.path j ≡ visit_at s.path j
  old_visit j h = get_or_append_left s.path (v ∷ []) no_visit j h

  new_visit : (j : ℕ) → j ≡ length s.path → visit_at with_open.path j ≡ v
  new_visit j h = get_or_push s.path v no_visit j (sym h)

  stays : (q : ℕ) (k : Mark) → mark_at s.marks q ≡ k → (k ≡ Unseen → ⊥) → mark_at with_open.marks q ≡ k
  stays = mark_stays s.marks p Unseen (Open (length s.path)) new

  before : (q : ℕ) (k : Mark) → mark_at with_open.marks q ≡ k → (Open (length s.path) ≡ k → ⊥) → mark_at s.marks q ≡ k
  before = mark_before s.marks p Unseen (Open (length s.path)) new at_marks

  here : mark_at with_open.marks p ≡ Open (length s.path)
  here = mark_written s.marks p Unseen (Open (length s.path)) new at_marks

  done_stays : (q : ℕ) → is_done (mark_at s.marks q) ≡ true → is_done (mark_at with_open.marks q) ≡ true
  done_stays q h = test_stays s.marks p Unseen (Open (length s.path)) new is_done true q h (λ e. cc)

  longer : length with_open.path ≡ length s.path + 1
  longer = length_push s.path v

  fewer : unseen with_open.marks + 1 ≡ unseen s.marks + 0
  fewer = unseen_written s.marks p Unseen (Open (length s.path)) new at_marks

  opens : (j : ℕ) → j < length with_open.path → mark_at with_open.marks (visit_at with_open.path j).place ≡ Open j
  opens j h = elim (split_last j (length s.path) (subst (λ n. j < n) longer h)) [
    | inl a ↦ ap (λ (x : Visit). mark_at with_open.marks x.place) (old_visit j a) ∙ stays (visit_at s.path j).place (Open j) (search.opens j a) (λ e. cc)
    | inr b ↦ ap (λ (x : Visit). mark_at with_open.marks x.place) (new_visit j b) ∙ here ∙ ap Open (sym b)
  ]

  opened : (q j : ℕ) → mark_at with_open.marks q ≡ Open j → (j < length with_open.path) × ((visit_at with_open.path j).place ≡ q)
  opened q j h = elim (cases_eq q p) [
    | inl e ↦
        let k : length s.path ≡ j = open_same _ _ (sym here ∙ ap (λ r. mark_at with_open.marks r) (sym e) ∙ h) in
        (subst (λ n. j < n) (sym longer) (omega arith), ap (λ (x : Visit). x.place) (new_visit j (sym k)) ∙ sym e)
    | inr d ↦
        let o = search.opened q j (sym (get_or-set_other s.marks p q (Open (length s.path)) Unseen d) ∙ h) in
        let l : j < length s.path = o.0 in
        (subst (λ n. j < n) (sym longer) (omega arith), ap (λ (x : Visit). x.place) (old_visit j l) ∙ o.1)
  ]

  passed : (j : ℕ) → j < length with_open.path → IsPassed rows with_open.marks (visit_at with_open.path j)
  passed j h = elim (split_last j (length s.path) (subst (λ n. j < n) longer h)) [
    | inl a ↦ subst (IsPassed rows with_open.marks) (sym (old_visit j a)) (passed_stays rows s.marks with_open.marks done_stays (visit_at s.path j) (search.passed j a))
    | inr b ↦ subst (IsPassed rows with_open.marks) (sym (new_visit j b)) (λ i a l. absurd (omega arith))
  ]

  leads_on : (j : ℕ) → j + 1 < length with_open.path → LeadsNext rows (visit_at with_open.path j) (visit_at with_open.path (j + 1)).place
  leads_on j h = elim (split_last (j + 1) (length s.path) (subst (λ n. j + 1 < n) longer h)) [
    | inl a ↦
        let l : j < length s.path = omega arith in
        subst (λ (x : Visit). LeadsNext rows x (visit_at with_open.path (j + 1)).place) (sym (old_visit j l))
        (subst (λ (x : Visit). LeadsNext rows (visit_at s.path j) x.place) (sym (old_visit (j + 1) a)) (search.leads j a))
    | inr b ↦
        let l : j < length s.path = omega arith in
        let t : length s.path - 1 ≡ j = omega arith in
        subst (λ (x : Visit). LeadsNext rows x (visit_at with_open.path (j + 1)).place) (sym (old_visit j l))
        (subst (λ (x : Visit). LeadsNext rows (visit_at s.path j) x.place) (sym (new_visit (j + 1) b)) (subst (λ n. LeadsNext rows (visit_at s.path n) p) t (leads (omega arith))))
  ]

  back : (r q k : ℕ) → mark_at with_open.marks r ≡ Done k → IsLinked rows r q → (m : ℕ) × (mark_at with_open.marks q ≡ Done m) × (m < k)
  back r q k h l =
      let o = search.back r q k (before r (Done k) h (λ e. cc)) l in
      (o.0, stays q (Done o.0) o.1 (λ e. cc), o.2)

  pub opened_met : is_unseen (mark_at with_open.marks p) ≡ false
  opened_met = ap is_unseen here

  pub opening : GoesOn rows s with_open
  opening = record {
    search = record {
      marked = length-set s.marks p (Open (length s.path)) ∙ search.marked;
      total = let t = search.total in omega (arith, longer, fewer);
      opens = opens;
      opened = opened;
      passed = passed;
      leads = leads_on;
      placed = λ q k h. search.placed q k (before q (Done k) h (λ e. cc));
      numbered = λ k h. stays (get_or s.order k 0) (Done k) (search.numbered k h) (λ e. cc);
      back = back;
    };
    keeps = record {
      done = done_stays;
      seen = λ q h. seen_stays s.marks p Unseen (Open (length s.path)) new at_marks q refl h;
    };
    less = omega (arith, longer, fewer);
  }

-- The last place of the path, all of whose links are passed, goes to the order.

module _ (rows : List (List ℕ)) (s : State) (search : IsSearch rows s) (p : ℕ) (path : 0 < length s.path) (place : (top_of s.path).place ≡ p)
    (all : length (row rows p) ≤ (top_of s.path).next) where
  abbrev t : ℕ
  t = length s.path - 1

  abbrev pub with_done : State
  with_done = record { marks = set s.marks p (Done (length s.order)); path = take t s.path; order = s.order ++ p ∷ [] }

  was : mark_at s.marks p ≡ Open t
  was = subst (λ q. mark_at s.marks q ≡ Open t) place (search.opens t (omega arith))

  pub in_marks : p < length s.marks
  in_marks = mark_inside s.marks p (λ e. let o : Unseen ≡ Open t = sym e ∙ was in cc)

  shorter : length with_done.path ≡ t
  shorter = length-take-le t s.path (omega arith)

  more : length with_done.order ≡ length s.order + 1
  more = length_push s.order p

  same_visit : (j : ℕ) → j < t → visit_at with_done.path j ≡ visit_at s.path j
  same_visit j h = get_or-take t s.path j no_visit h

  here_done : mark_at with_done.marks p ≡ Done (length s.order)
  here_done = mark_written s.marks p (Open t) (Done (length s.order)) was in_marks

  others : (q : ℕ) (k : Mark) → mark_at s.marks q ≡ k → (k ≡ Open t → ⊥) → mark_at with_done.marks q ≡ k
  others = mark_stays s.marks p (Open t) (Done (length s.order)) was

  still_done : (q : ℕ) → is_done (mark_at s.marks q) ≡ true → is_done (mark_at with_done.marks q) ≡ true
  still_done q h = test_stays s.marks p (Open t) (Done (length s.order)) was is_done true q h (λ e. cc)

  same_count : unseen with_done.marks + 0 ≡ unseen s.marks + 0
  same_count = unseen_written s.marks p (Open t) (Done (length s.order)) was in_marks

  still_open : (j : ℕ) → j < length with_done.path → mark_at with_done.marks (visit_at with_done.path j).place ≡ Open j
  still_open j h =
      let l : j < t = subst (λ n. j < n) shorter h in
      ap (λ (x : Visit). mark_at with_done.marks x.place) (same_visit j l)
      ∙ others (visit_at s.path j).place (Open j) (search.opens j (omega arith)) (λ e. let q : j ≡ t = open_same j t e in absurd (omega arith))

  were_open : (q j : ℕ) → mark_at with_done.marks q ≡ Open j → (j < length with_done.path) × ((visit_at with_done.path j).place ≡ q)
  were_open q j h =
      let o = search.opened q j (mark_before s.marks p (Open t) (Done (length s.order)) was in_marks q (Open j) h (λ e. cc)) in
      let a : j < length s.path = o.0 in
      elim (cases_eq j t) [
        | inl e ↦
            let q_is : q ≡ p = sym o.1 ∙ ap (λ i. (visit_at s.path i).place) e ∙ place in
            let both : Done (length s.order) ≡ Open j = sym here_done ∙ ap (λ r. mark_at with_done.marks r) (sym q_is) ∙ h in
            absurd cc
        | inr d ↦
            let l : j < t = omega arith in
            (subst (λ n. j < n) (sym shorter) l, ap (λ (x : Visit). x.place) (same_visit j l) ∙ o.1)
      ]

  passed_done : (j : ℕ) → j < length with_done.path → IsPassed rows with_done.marks (visit_at with_done.path j)
  passed_done j h =
      let l : j < t = subst (λ n. j < n) shorter h in
      subst (IsPassed rows with_done.marks) (sym (same_visit j l)) (passed_stays rows s.marks with_done.marks still_done (visit_at s.path j) (search.passed j (omega arith)))

  leads_done : (j : ℕ) → j + 1 < length with_done.path → LeadsNext rows (visit_at with_done.path j) (visit_at with_done.path (j + 1)).place
  leads_done j h =
      let l : j + 1 < t = subst (λ n. j + 1 < n) shorter h in
      subst (λ (x : Visit). LeadsNext rows x (visit_at with_done.path (j + 1)).place) (sym (same_visit j (omega arith)))
      (subst (λ (x : Visit). LeadsNext rows (visit_at s.path j) x.place) (sym (same_visit (j + 1) l)) (search.leads j (omega arith)))

  placed_done : (q k : ℕ) → mark_at with_done.marks q ≡ Done k → (k < length with_done.order) × (get_or with_done.order k 0 ≡ q)
  placed_done q k h = elim (cases_eq q p) [
    | inl e ↦
        let n : length s.order ≡ k = done_same _ _ (sym here_done ∙ ap (λ r. mark_at with_done.marks r) (sym e) ∙ h) in
        (subst (λ m. k < m) (sym more) (omega arith), get_or_push s.order p 0 k n ∙ sym e)
    | inr d ↦
        let o = search.placed q k (sym (get_or-set_other s.marks p q (Done (length s.order)) Unseen d) ∙ h) in
        let l : k < length s.order = o.0 in
        (subst (λ m. k < m) (sym more) (omega arith), get_or_append_left s.order (p ∷ []) 0 k l ∙ o.1)
  ]

  numbered_done : (k : ℕ) → k < length with_done.order → mark_at with_done.marks (get_or with_done.order k 0) ≡ Done k
  numbered_done k h = elim (split_last k (length s.order) (subst (λ n. k < n) more h)) [
    | inl a ↦ ap (λ q. mark_at with_done.marks q) (get_or_append_left s.order (p ∷ []) 0 k a) ∙ others (get_or s.order k 0) (Done k) (search.numbered k a) (λ e. cc)
    | inr b ↦ ap (λ q. mark_at with_done.marks q) (get_or_push s.order p 0 k (sym b)) ∙ here_done ∙ ap Done (sym b)
  ]

  -- a place to which the new one is linked is done with
  linked_done : (q : ℕ) → IsLinked rows p q → (m : ℕ) × (mark_at s.marks q ≡ Done m)
  linked_done q (i, a, e) =
      let z : is_done (mark_at s.marks (get_or (row rows p) i 0)) ≡ true =
      subst (λ r. (i : ℕ) → i < (top_of s.path).next → i < length (row rows r) → is_done (mark_at s.marks (get_or (row rows r) i 0)) ≡ true) place (search.passed t (omega arith)) i (omega arith) a in
      done_number (mark_at s.marks q) (subst (λ r. is_done (mark_at s.marks r) ≡ true) e z)

  back_done : (r q k : ℕ) → mark_at with_done.marks r ≡ Done k → IsLinked rows r q → (m : ℕ) × (mark_at with_done.marks q ≡ Done m) × (m < k)
  back_done r q k h l = elim (cases_eq r p) [
    | inl e ↦
        let n : length s.order ≡ k = done_same _ _ (sym here_done ∙ ap (λ x. mark_at with_done.marks x) (sym e) ∙ h) in
        let o = linked_done q (subst (λ x. IsLinked rows x q) e l) in
        let b : o.0 < length s.order = (search.placed q o.0 o.1).0 in
        (o.0, others q (Done o.0) o.1 (λ x. cc), omega arith)
    | inr d ↦
        let o = search.back r q k (sym (get_or-set_other s.marks p r (Done (length s.order)) Unseen d) ∙ h) l in
        (o.0, others q (Done o.0) o.1 (λ x. cc), o.2)
  ]

  pub finishing : GoesOn rows s with_done
  finishing = record {
    search = record {
      marked = length-set s.marks p (Done (length s.order)) ∙ search.marked;
      total = let u = search.total in omega (arith, shorter, more, same_count);
      opens = still_open;
      opened = were_open;
      passed = passed_done;
      leads = leads_done;
      placed = placed_done;
      numbered = numbered_done;
      back = back_done;
    };
    keeps = record {
      done = still_done;
      seen = λ q h. seen_stays s.marks p (Open t) (Done (length s.order)) was in_marks q refl h;
    };
    less = omega (arith, shorter, same_count);
  }

-- The last place of the path goes on to a later link.

module _ (rows : List (List ℕ)) (s : State) (search : IsSearch rows s) (v : Visit) (path : 0 < length s.path) (place : v.place ≡ (top_of s.path).place)
    (over : IsPassed rows s.marks v) where
  abbrev last : ℕ
  last = length s.path - 1

  abbrev pub with_next : State
  with_next = record s { path = set s.path last v }

  other_visit : (j : ℕ) → (j ≡ last → ⊥) → visit_at with_next.path j ≡ visit_at s.path j
  other_visit j d = get_or-set_other s.path last j v no_visit d

  last_visit : (j : ℕ) → j ≡ last → visit_at with_next.path j ≡ v
  last_visit j e = ap (visit_at with_next.path) e ∙ get_or-set_same s.path last v no_visit (omega arith)

  same_place : (j : ℕ) → (visit_at with_next.path j).place ≡ (visit_at s.path j).place
  same_place j = elim (cases_eq j last) [
    | inl e ↦ ap (λ (x : Visit). x.place) (last_visit j e) ∙ place ∙ ap (λ i. (visit_at s.path i).place) (sym e)
    | inr d ↦ ap (λ (x : Visit). x.place) (other_visit j d)
  ]

  as_long : length with_next.path ≡ length s.path
  as_long = length-set s.path last v

  pub last_is : top_of with_next.path ≡ v
  last_is = last_visit (length with_next.path - 1) (ap (λ n. n - 1) as_long)

  passed_next : (j : ℕ) → j < length with_next.path → IsPassed rows s.marks (visit_at with_next.path j)
  passed_next j h = elim (cases_eq j last) [
    | inl e ↦ subst (IsPassed rows s.marks) (sym (last_visit j e)) over
    | inr d ↦ subst (IsPassed rows s.marks) (sym (other_visit j d)) (search.passed j (subst (λ n. j < n) as_long h))
  ]

  leads_next : (j : ℕ) → j + 1 < length with_next.path → LeadsNext rows (visit_at with_next.path j) (visit_at with_next.path (j + 1)).place
  leads_next j h =
      let l : j + 1 < length s.path = subst (λ n. j + 1 < n) as_long h in
      subst (λ (x : Visit). LeadsNext rows x (visit_at with_next.path (j + 1)).place) (sym (other_visit j (λ e. omega arith)))
      (subst (λ q. LeadsNext rows (visit_at s.path j) q) (sym (same_place (j + 1))) (search.leads j l))

  pub passing : IsSearch rows with_next
  passing = record {
    marked = search.marked;
    total = subst (λ n. length s.order + n + unseen s.marks ≡ length rows) (sym as_long) search.total;
    opens = λ j h. ap (λ q. mark_at s.marks q) (same_place j) ∙ search.opens j (subst (λ n. j < n) as_long h);
    opened = λ q j h. let o = search.opened q j h in (subst (λ n. j < n) (sym as_long) o.0, same_place j ∙ o.1);
    passed = passed_next;
    leads = leads_next;
    placed = search.placed;
    numbered = search.numbered;
    back = search.back;
  }

  pub same_work : work with_next ≡ work s
  same_work = ap (λ n. 2 * unseen s.marks + n) as_long

-- A link of the last place to one on the path closes a ring.

module _ (rows : List (List ℕ)) (s : State) (search : IsSearch rows s) (to at : ℕ) (path : 0 < length s.path) (open_at : mark_at s.marks to ≡ Open at)
    (leads : LeadsNext rows (top_of s.path) to) where
  abbrev pub ring : List ℕ
  ring = map (λ (v : Visit). v.place) (drop at s.path)

  pub at_path : at < length s.path
  at_path = (search.opened to at open_at).0

  ring_length : length ring ≡ length s.path - at
  ring_length = length-map (drop at s.path) (λ (v : Visit). v.place) ∙ length-drop at s.path

  ring_at : (i : ℕ) → i < length ring → get_or ring i 0 ≡ (visit_at s.path (at + i)).place
  ring_at i h =
      let l : i < length (drop at s.path) = subst (λ n. i < n) (length-map (drop at s.path) (λ (v : Visit). v.place)) h in
      get_or-map (λ (v : Visit). v.place) (drop at s.path) i no_visit 0 l ∙ ap (λ (v : Visit). v.place) (get_or-drop at s.path i no_visit)

  opens_at : (i : ℕ) → i < length ring → mark_at s.marks (get_or ring i 0) ≡ Open (at + i)
  opens_at i h = ap (λ q. mark_at s.marks q) (ring_at i h) ∙ search.opens (at + i) (let e = ring_length in let a = at_path in omega arith)

  linked_by : (v : Visit) (q : ℕ) → LeadsNext rows v q → IsLinked rows v.place q
  linked_by v q l = (v.next, l.inside, l.leads)

  pub ring_closes : IsRing rows ring
  ring_closes = record {
    some = let e = ring_length in let a = at_path in omega arith;
    once = λ i j h k e. let o : at + i ≡ at + j = open_same _ _ (sym (opens_at i h) ∙ ap (λ q. mark_at s.marks q) e ∙ opens_at j k) in omega arith;
    next = λ i h.
        let e = ring_length in
        let l : at + i + 1 < length s.path = omega arith in
        let n : at + (i + 1) ≡ at + i + 1 = omega arith in
        let here : get_or ring i 0 ≡ (visit_at s.path (at + i)).place = ring_at i (omega arith) in
        let there : get_or ring (i + 1) 0 ≡ (visit_at s.path (at + i + 1)).place = ring_at (i + 1) h ∙ ap (λ m. (visit_at s.path m).place) n in
        subst (λ q. IsLinked rows q (get_or ring (i + 1) 0)) (sym here) (subst (λ q. IsLinked rows (visit_at s.path (at + i)).place q) (sym there) (linked_by _ _ (search.leads (at + i) l)));
    round =
        let e = ring_length in
        let a = at_path in
        let n : at + (length ring - 1) ≡ length s.path - 1 = omega arith in
        let end : get_or ring (length ring - 1) 0 ≡ (top_of s.path).place = ring_at (length ring - 1) (omega arith) ∙ ap (λ m. (visit_at s.path m).place) n in
        let z : at + 0 ≡ at = omega arith in
        let start : get_or ring 0 0 ≡ to = ring_at 0 (omega arith) ∙ ap (λ m. (visit_at s.path m).place) z ∙ (search.opened to at open_at).1 in
        subst (λ q. IsLinked rows q (get_or ring 0 0)) (sym end) (subst (λ q. IsLinked rows (top_of s.path).place q) (sym start) (linked_by _ _ leads));
  }

-- what goes on from a later link goes on from the earlier one
pub goes_on : (rows : List (List ℕ)) (s : State) (v : Visit) (new : State)
    → GoesOn rows (record s { path = set s.path (length s.path - 1) v }) new → GoesOn rows s new
goes_on rows s v new g = record {
  search = g.search;
  keeps = record { done = g.keeps.done; seen = g.keeps.seen };
  less = let e : length (set s.path (length s.path - 1) v) ≡ length s.path = length-set s.path (length s.path - 1) v in let l = g.less in omega arith;
}

-- The last place of the path, as it is read, goes on to the next link that is not passed.

pub top_read : (path : List Visit) (n : ℕ) (x : Visit) → n ≡ length path → 0 < length path → x ≡ get_or path (n - 1) x → x ≡ top_of path
top_read path n x e l h = get_or_read path (n - 1) x (omega arith) h no_visit ∙ ap (λ m. visit_at path (m - 1)) e

module _ (rows : List (List ℕ)) (s : State) (search : IsSearch rows s) (path : 0 < length s.path) (x : Visit) (is_top : x ≡ top_of s.path) where
  pub place_inside : x.place < length rows
  place_inside =
      let o : mark_at s.marks (top_of s.path).place ≡ Open (length s.path - 1) = search.opens (length s.path - 1) (omega arith) in
      let l : (top_of s.path).place < length s.marks = mark_inside s.marks (top_of s.path).place (λ e. let z : Unseen ≡ Open (length s.path - 1) = sym e ∙ o in cc) in
      subst (λ n. x.place < n) search.marked (subst (λ (y : Visit). y.place < length s.marks) (sym is_top) l)

  module _ (r : List ℕ) (is_row : r ≡ row rows x.place) (next : ℕ)
      (over : (i : ℕ) → x.next ≤ i → i < next → i < length r → is_done (mark_at s.marks (get_or r i 0)) ≡ true) where
    abbrev pub on : Visit
    on = record { place = x.place; next = next }

    on_place : on.place ≡ (top_of s.path).place
    on_place = ap (λ (y : Visit). y.place) is_top

    passed_on : IsPassed rows s.marks on
    passed_on i a l = elim (cases_lt i x.next) [
      | inl h ↦ subst (IsPassed rows s.marks) (sym is_top) (search.passed (length s.path - 1) (omega arith)) i h l
      | inr h ↦ subst (λ q. is_done (mark_at s.marks (get_or q i 0)) ≡ true) is_row (over i h a (subst (λ q. i < length q) (sym is_row) l))
    ]

    pub moved : (k : ℕ) → k ≡ length s.path → IsSearch rows (record s { path = set s.path (k - 1) on })
    moved k e = subst (λ m. IsSearch rows (record s { path = set s.path (m - 1) on })) (sym e) (passing rows s search on path on_place passed_on)

    pub moved_top : (k : ℕ) → k ≡ length s.path → top_of (set s.path (k - 1) on) ≡ on
    moved_top k e = ap (λ m. top_of (set s.path (m - 1) on)) e ∙ last_is rows s search on path on_place passed_on

    pub linked_on : (to : ℕ) → next < length r → to ≡ get_or r next 0 → LeadsNext rows on to
    linked_on to l e = record { inside = subst (λ q. next < length q) is_row l; leads = sym (subst (λ q. to ≡ get_or q next 0) is_row e) }
