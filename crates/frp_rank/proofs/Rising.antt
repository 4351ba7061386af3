-- What a raise does to ranks.
use Rattle.std.proofs.Common.{◌≡◌, ◌≢◌, ℕ, ◌+◌, ◌<◌, ◌≤◌, ◌^◌, Bool, true, false, cond, leb, ◌&&◌, List, [], ◌∷◌, length, get_or, suc, zero, refl, sym, ap, ◌∙◌, subst, arith, rules, inl, inr, ◌⊎◌, All}
use mathlib.Core.Bool.{true≢false}
use Rattle.std.proofs.lemmas.List.{get_or_past}
use Rattle.std.proofs.lemmas.Bool.{cases_lt, cases_eq}
use Rattle.std.proofs.lemmas.Bool.Decides.{nat_tests}
use Rattle.frp_base.proofs.Booleans.{bool_cases}
use Rattle.frp_rank.specs.declared.visit.Visit.{Visit}
use Rattle.frp_rank.specs.declared.write.Write.{Write}
use Rattle.frp_rank.specs.declared.search.Search.{Search}
use Rattle.frp_rank.specs.Chain.{Link, is_path, is_linked, LeadsTo, with_link}
use Rattle.frp_rank.specs.Order.{Order, LeadsLower, RaisesAbove, KeepsOrder, RenumbersAt, has_high}
use Rattle.frp_rank.specs.Laws.{LiftKeepsLower, lifted, lower_count, renumbered}
use Rattle.frp_rank.specs.Graph.{live_links, edge_at, start_of, end_of}
use Rattle.frp_rank.specs.Search.{has_visit, visit_at, IsSearchable, IsSearch, LeadsOn, is_close, AreAllMet, searched}
use Rattle.frp_rank.specs.Plans.{written, risen_writes, lower_writes, has_high_write, FitsOrder, AreInside}
use Rattle.frp_rank.proofs.Filing.{LiveEdge, edge_of_link}
use Rattle.frp_rank.proofs.Visiting.{visit_of}
use Rattle.frp_rank.proofs.Writing.{written_length, risen_at, risen_high, risen_low, high_at, written_anew}
use Rattle.frp_rank.proofs.Renumbering.{renumbered_keeps, renumbered_at, lower_count_le}

pub lift_lower : LiftKeepsLower
lift_lower linked rank marked from to by low closed mf mt h a b e = search rules

-- each visited place is the first or leads to it
leads_below : (n : ℕ) (links : List Link) (rank : ℕ → ℕ) (from : ℕ) (visits : List Visit) → LeadsLower (is_linked links) rank → ((j : ℕ) → j < length visits → LeadsOn links from visits (visit_at visits j))
    → (p : ℕ) → rank p < n → has_visit visits p ≡ true → (p ≡ from) ⊎ LeadsTo links p from
leads_below zero links rank from visits low hops p h m = absurd (omega arith)
leads_below (suc n) links rank from visits low hops p h m = on (visit_of visits p m) (λ q d k. leads_below n links rank from visits low hops q d k) where
  onward : (q : ℕ) → is_linked links p q ≡ true → (q ≡ from) ⊎ LeadsTo links q from → LeadsTo links p from
  onward q l (inl e) = ([], let f : is_linked links p from ≡ true = subst (λ t. is_linked links p t ≡ true) e l in ap (λ b. cond b true false) f)
  onward q l (inr (ns, path)) = (q ∷ ns, ap (λ b. cond b (is_path (is_linked links) (q ∷ ns) from) false) l ∙ path)

  hop : (v : Visit) → v.place ≡ p → ((q : ℕ) → rank q < n → has_visit visits q ≡ true → (q ≡ from) ⊎ LeadsTo links q from) → LeadsOn links from visits v → (p ≡ from) ⊎ LeadsTo links p from
  hop v e f (inl i) = inl (sym e ∙ i)
  hop v e f (inr (l, k)) =
      let linked : is_linked links p v.through ≡ true = subst (λ t. is_linked links t v.through ≡ true) e l in
      inr (onward v.through linked (f v.through (let d = low p v.through linked in omega arith) k))

  on : (j : ℕ) × (j < length visits) × ((visit_at visits j).place ≡ p) → ((q : ℕ) → rank q < n → has_visit visits q ≡ true → (q ≡ from) ⊎ LeadsTo links q from) → (p ≡ from) ⊎ LeadsTo links p from
  on (j, l, e) f = hop (visit_at visits j) e f (hops j l)

pub leads : (links : List Link) (rank : ℕ → ℕ) (from : ℕ) (visits : List Visit) → LeadsLower (is_linked links) rank → ((j : ℕ) → j < length visits → LeadsOn links from visits (visit_at visits j))
    → (p : ℕ) → has_visit visits p ≡ true → (p ≡ from) ⊎ LeadsTo links p from
leads links rank from visits low hops p m = leads_below (rank p + 1) links rank from visits low hops p (omega arith) m

lift_up : (b : Bool) (r by : ℕ) → r ≤ cond b (r + by) r
lift_up true r by = omega arith
lift_up false r by = omega arith

lift_either : (b : Bool) (r by : ℕ) → (cond b (r + by) r ≡ r) ⊎ (cond b (r + by) r ≡ r + by)
lift_either true r by = inr refl
lift_either false r by = inl refl

module _ (s : Search) (slots : List ℕ) (visits : List Visit) (to : ℕ) (able : IsSearchable s) (search : IsSearch s slots visits) (met : AreAllMet s visits)
    (clear : has_visit visits to ≡ false) (inside_to : to < length s.ranks.now.items) (higher : get_or s.ranks.now.items to 0 < get_or s.ranks.now.items s.from 0 + s.by) where
  abbrev ranks : List ℕ
  ranks = s.ranks.now.items

  abbrev links : List Link
  links = live_links s.edges.now.items

  abbrev rank : ℕ → ℕ
  rank p = get_or ranks p 0

  abbrev risen : List ℕ
  risen = written ranks (risen_writes ranks s.by visits)

  inside : (q : ℕ) → has_visit visits q ≡ true → q < length ranks
  inside q h = let v : (j : ℕ) × (j < length visits) × ((visit_at visits j).place ≡ q) = visit_of visits q h in subst (λ t. t < length ranks) v.2 (search.inside v.0 v.1)

  at : (p : ℕ) → get_or risen p 0 ≡ lifted rank (has_visit visits) s.by p
  at p = risen_at ranks s.by visits inside p

  close : (e : Bool) (a b by : ℕ) → e ≡ true → a ≤ b + by → (e && leb a (b + by)) ≡ true
  close e a b by h l = grind (arith, nat_tests, h)

  closed : (a b : ℕ) → is_linked links a b ≡ true → has_visit visits b ≡ true → rank a ≤ rank b + s.by → has_visit visits a ≡ true
  closed a b l h k =
      let e : LiveEdge s.edges.now.items a b = edge_of_link s.edges.now.items a b l in
      let m = met b h e.0 e.1 e.4 in
      subst (λ t. has_visit visits t ≡ true) e.3 (m (close (edge_at s.edges.now.items e.0).live (rank (start_of s.edges.now.items e.0)) (rank (end_of s.edges.now.items e.0)) s.by e.2 (rw (e.3, e.4) k)))

  lower : LeadsLower (with_link (is_linked links) s.from to) (λ p. get_or risen p 0)
  lower a b e = rw (at a, at b) (lift_lower (is_linked links) rank (has_visit visits) s.from to s.by able.lower closed search.start clear higher a b e)

  raises : RaisesAbove (searched s) s.from risen
  raises = record {
    by = s.by;
    length_kept = written_length ranks (risen_writes ranks s.by visits);
    changed = λ p d. elim (bool_cases (has_visit visits p)) [
      | inl m ↦ leads links rank s.from visits able.lower search.hops p m
      | inr m ↦ absurd (d (at p ∙ ap (λ b. cond b (rank p + s.by) (rank p)) m))
    ];
    alike = λ p. rw (at p) (lift_either (has_visit visits p) (rank p) s.by);
    risen = λ p. rw (at p) (lift_up (has_visit visits p) (rank p) s.by);
  }

  -- no rank reached the limit
  pub fits_low : has_high_write (risen_writes ranks s.by visits) ≡ false → FitsOrder (searched s) s.from to risen
  fits_low h = record {
    ranks = (risen, raises, record { low = λ e. refl; high = λ e. record { same_length = refl; below = λ p q a b l. l; equal = λ p q a b l. l } });
    lower = lower;
    small = λ p. rw (at p) (elim (bool_cases (has_visit visits p)) [ inl t ↦ rw t (risen_low ranks s.by visits h p t) | inr f ↦ rw f (able.small p) ]);
    length_kept = written_length ranks (risen_writes ranks s.by visits);
  }

  inside_from : s.from < length ranks
  inside_from = able.start

  linked_inside : (a b : ℕ) → is_linked links a b ≡ true → (a < length ranks) × (b < length ranks)
  linked_inside a b h =
      let e : LiveEdge s.edges.now.items a b = edge_of_link s.edges.now.items a b h in
      (subst (λ t. t < length ranks) e.3 (able.filed.starts e.0 e.1), subst (λ t. t < length ranks) e.4 (able.filed.ends e.0 e.1))

  within : (a b : ℕ) → with_link (is_linked links) s.from to a b ≡ true → (a < length ranks) × (b < length ranks)
  within a b h = elim (cases_eq s.from a) [
    | inl p ↦ elim (cases_eq to b) [ inl q ↦ (omega (arith, inside_from), omega (arith, inside_to)) | inr q ↦ linked_inside a b (grind (arith, nat_tests)) ]
    | inr p ↦ linked_inside a b (grind (arith, nat_tests))
  ]

  -- a rank reached the limit, and all are renumbered
  pub fits_high : has_high_write (risen_writes ranks s.by visits) ≡ true → FitsOrder (searched s) s.from to (renumbered risen)
  fits_high h =
      let length_risen : length risen ≡ length ranks = written_length ranks (risen_writes ranks s.by visits) in
      let keeps : KeepsOrder risen (renumbered risen) = renumbered_keeps risen in
      let few = able.few in
      record {
        ranks = (risen, raises, record { low = λ e. absurd (true≢false (sym (reached h) ∙ e)); high = λ e. keeps });
        lower = λ a b e. let w = within a b e in keeps.below b a (omega (arith, length_risen, w)) (omega (arith, length_risen, w)) (lower a b e);
        small = λ p. elim (cases_lt p (length risen)) [
          | inl l ↦ rw (renumbered_at risen p l) (let m = lower_count_le risen (get_or risen p 0) in omega arith)
          | inr l ↦ rw (get_or_past (renumbered risen) p 0 (omega (arith, keeps.same_length))) (omega arith)
        ];
        length_kept = keeps.same_length ∙ length_risen;
      }
    where
      reached : has_high_write (risen_writes ranks s.by visits) ≡ true → has_high risen ≡ true
      reached k =
          let r : (p : ℕ) × (has_visit visits p ≡ true) × (2 ^ 32 ≤ rank p + s.by) = risen_high ranks s.by visits k in
          let e : get_or risen r.0 0 ≡ rank r.0 + s.by = at r.0 ∙ ap (λ b. cond b (rank r.0 + s.by) (rank r.0)) r.1 in
          high_at risen r.0 (let l = inside r.0 r.1 in omega (arith, written_length ranks (risen_writes ranks s.by visits))) (rw e r.2)
