-- Edges that become links, or none.
use Rattle.std.proofs.Common.{◌≡◌, ◌≢◌, ℕ, ◌+◌, ◌<◌, ◌≤◌, ◌^◌, Bool, true, false, cond, eqb, ◌&&◌, List, [], ◌∷◌, ◌++◌, length, length-append, length-set, get_or, get_or-set_other, set, suc, zero, refl, sym, ap, ◌∙◌, subst, arith, inl, inr, ◌⊎◌, Option, Some, None}
use mathlib.Core.Bool.{true≢false}
use Rattle.std.proofs.Math.Seq.{get_or-append_seam}
use Rattle.std.proofs.lemmas.List.{get_or_append_left, get_or-set_same, get_or_past, set-get_or}
use Rattle.std.proofs.lemmas.Grind.{common_steps}
use Rattle.std.proofs.lemmas.Bool.{cases_eq, cases_lt}
use Rattle.std.proofs.lemmas.Bool.Decides.{nat_tests}
use Rattle.frp_rank.specs.declared.edge.Edge.{Edge}
use Rattle.frp_rank.specs.declared.graph.Graph.{Graph}
use Rattle.frp_rank.specs.Chain.{Link, is_linked, with_link, without_link}
use Rattle.frp_rank.specs.Order.{Order, IsOrdered, LeadsLower, Raises}
use Rattle.frp_rank.specs.declared.write.Write.{Write}
use Rattle.frp_rank.specs.Plans.{FitsOrder, written}
use Rattle.std.specs.Prelude.{IfSome, IfNone}
use Rattle.frp_base.proofs.Booleans.{bool_cases, same_test}
use Rattle.frp_rank.specs.Graph.{Net, net_of, base_of, live_links, no_edge, edge_at, start_of, end_of, latest, AreFiled, IsSound, IsKept, with_live, with_empty_place, Finds}
use Rattle.frp_rank.proofs.Paths.{chainless}
use Rattle.frp_rank.proofs.Filing.{LiveEdge, edge_of_link, linked_edge, latest_le, latest_same}

-- What links and filing say of one another.

pub lower_edges : (ranks : List ℕ) (es : List Edge) → ((j : ℕ) → j < length es → (edge_at es j).live ≡ true → get_or ranks (end_of es j) 0 < get_or ranks (start_of es j) 0) → LeadsLower (is_linked (live_links es)) (λ p. get_or ranks p 0)
lower_edges ranks es h a b l = let e : LiveEdge es a b = edge_of_link es a b l in
    subst (λ x. get_or ranks b 0 < get_or ranks x 0) e.3 (subst (λ x. get_or ranks x 0 < get_or ranks (start_of es e.0) 0) e.4 (h e.0 e.1 e.2))

pub linked_places : (es : List Edge) (n : ℕ) → AreFiled es n → (a b : ℕ) → is_linked (live_links es) a b ≡ true → (a < n) × (b < n)
linked_places es n f a b l = let e : LiveEdge es a b = edge_of_link es a b l in (subst (λ x. x < n) e.3 (f.starts e.0 e.1), subst (λ x. x < n) e.4 (f.ends e.0 e.1))

-- edges that differ in their life alone are filed alike
pub filed_like : (es fs : List Edge) (n : ℕ) → length fs ≡ length es → ((j : ℕ) → start_of fs j ≡ start_of es j) → ((j : ℕ) → end_of fs j ≡ end_of es j)
    → ((j : ℕ) → (edge_at fs j).earlier_in ≡ (edge_at es j).earlier_in) → ((j : ℕ) → (edge_at fs j).earlier_out ≡ (edge_at es j).earlier_out) → AreFiled es n → AreFiled fs n
filed_like es fs n len starts ends ins outs f = record {
  starts = λ i h. rw (starts i) (f.starts i (within i h));
  ends = λ i h. rw (ends i) (f.ends i (within i h));
  once = λ i j h k a b. f.once i j (within i h) (within j k) (sym (starts i) ∙ a ∙ starts j) (sym (ends i) ∙ b ∙ ends j);
  earlier_in = λ i h. ins i ∙ f.earlier_in i (within i h) ∙ latest_same (end_of es) (end_of fs) i (end_of es i) (λ j l. sym (ends j)) ∙ ap (latest (end_of fs) i) (sym (ends i));
  earlier_out = λ i h. outs i ∙ f.earlier_out i (within i h) ∙ latest_same (start_of es) (start_of fs) i (start_of es i) (λ j l. sym (starts j)) ∙ ap (latest (start_of fs) i) (sym (starts i));
} where
  within : (i : ℕ) → i < length fs → i < length es
  within i h = omega arith

-- An edge becomes a link, or none.

module _ (es : List Edge) (i : ℕ) (v : Bool) (inside : i < length es) where
  abbrev new : List Edge
  new = with_live es i v

  live_length : length new ≡ length es
  live_length = length-set es i (record (edge_at es i) { live = v })

  live_here : edge_at new i ≡ record (edge_at es i) { live = v }
  live_here = get_or-set_same es i (record (edge_at es i) { live = v }) no_edge inside

  live_else : (j : ℕ) → j ≢ i → edge_at new j ≡ edge_at es j
  live_else j d = get_or-set_other es i j (record (edge_at es i) { live = v }) no_edge d

  alike : (f : Edge → ℕ) → ((e : Edge) → f (record e { live = v }) ≡ f e) → (j : ℕ) → f (edge_at new j) ≡ f (edge_at es j)
  alike f h j = elim (cases_eq j i) [
    | inl e ↦ ap (λ k. f (edge_at new k)) e ∙ ap f live_here ∙ h (edge_at es i) ∙ ap (λ k. f (edge_at es k)) (sym e)
    | inr d ↦ ap f (live_else j d)
  ]

  live_starts : (j : ℕ) → start_of new j ≡ start_of es j
  live_starts = alike (λ e. e.from) (λ e. refl)

  live_ends : (j : ℕ) → end_of new j ≡ end_of es j
  live_ends = alike (λ e. e.to) (λ e. refl)

  live_filed : (n : ℕ) → AreFiled es n → AreFiled new n
  live_filed n f = filed_like es new n live_length live_starts live_ends (alike (λ e. e.earlier_in) (λ e. refl)) (alike (λ e. e.earlier_out) (λ e. refl)) f

  pub live_sound : (ranks last_in last_out : List ℕ) → IsSound (record { ranks = ranks; last_in = last_in; last_out = last_out; edges = es })
      → (v ≡ true → get_or ranks (end_of es i) 0 < get_or ranks (start_of es i) 0) → IsSound (record { ranks = ranks; last_in = last_in; last_out = last_out; edges = new })
  live_sound ranks last_in last_out s h = record {
    ordered = record {
      lower = lower_edges ranks new (λ j l t. rw (live_starts j, live_ends j) (elim (cases_eq j i) [
        | inl e ↦ rw e (h (sym (ap (λ x. x.live) (ap (edge_at new) e ∙ live_here)) ∙ t))
        | inr d ↦ s.ordered.lower (start_of es j) (end_of es j) (linked_edge es j (omega (arith, live_length)) (sym (ap (λ x. x.live) (live_else j d)) ∙ t))
      ]));
      inside = linked_places new (length ranks) (live_filed (length ranks) s.filed);
      small = s.ordered.small;
      few = s.ordered.few;
    };
    filed = live_filed (length ranks) s.filed;
    in_length = s.in_length;
    out_length = s.out_length;
    last_in = λ p l. s.last_in p l ∙ latest_same (end_of es) (end_of new) (length es) p (λ j k. sym (live_ends j)) ∙ ap (λ n. latest (end_of new) n p) (sym live_length);
    last_out = λ p l. s.last_out p l ∙ latest_same (start_of es) (start_of new) (length es) p (λ j k. sym (live_starts j)) ∙ ap (λ n. latest (start_of new) n p) (sym live_length);
  }

  -- an edge that was and is alive
  other_edge : (j : ℕ) → j ≢ i → j < length es → (edge_at es j).live ≡ true → is_linked (live_links new) (start_of es j) (end_of es j) ≡ true
  other_edge j d l t = rw (sym (live_starts j), sym (live_ends j)) (linked_edge new j (omega (arith, live_length)) (ap (λ x. x.live) (live_else j d) ∙ t))

pub with_live_same : (es : List Edge) (i : ℕ) → (edge_at es i).live ≡ false → with_live es i false ≡ es
with_live_same es i h = ap (set es i) (ap (λ v. record (edge_at es i) { live = v }) (sym h)) ∙ set-get_or es i no_edge

pub link_here : (linked : ℕ → ℕ → Bool) (from to a b : ℕ) → from ≡ a → to ≡ b → with_link linked from to a b ≡ true
link_here linked from to a b p q = grind (arith, nat_tests)

link_more : (linked : ℕ → ℕ → Bool) (from to a b : ℕ) → linked a b ≡ true → with_link linked from to a b ≡ true
link_more linked from to a b h = elim (cases_eq from a) [ inl p ↦ elim (cases_eq to b) [ inl q ↦ grind (arith, nat_tests) | inr q ↦ grind (arith, nat_tests, h) ] | inr p ↦ grind (arith, nat_tests, h) ]

link_cases : (linked : ℕ → ℕ → Bool) (from to a b : ℕ) → with_link linked from to a b ≡ true → ((from ≡ a) × (to ≡ b)) ⊎ (linked a b ≡ true)
link_cases linked from to a b h = elim (cases_eq from a) [ inl p ↦ elim (cases_eq to b) [ inl q ↦ inl (p, q) | inr q ↦ inr (grind (arith, nat_tests, h)) ] | inr p ↦ inr (grind (arith, nat_tests, h)) ]

link_gone : (linked : ℕ → ℕ → Bool) (from to a b : ℕ) → without_link linked from to a b ≡ true → (linked a b ≡ true) × ((from ≡ a) → (to ≡ b) → ⊥)
link_gone linked from to a b h = elim (cases_eq from a) [
  | inl p ↦ elim (cases_eq to b) [ inl q ↦ absurd (grind (arith, nat_tests, h)) | inr q ↦ (grind (arith, nat_tests, h), λ x y. q y) ]
  | inr p ↦ (grind (arith, nat_tests, h), λ x y. p x)
]

link_left : (linked : ℕ → ℕ → Bool) (from to a b : ℕ) → linked a b ≡ true → ((from ≡ a) → (to ≡ b) → ⊥) → without_link linked from to a b ≡ true
link_left linked from to a b h d = elim (cases_eq from a) [
  | inl p ↦ elim (cases_eq to b) [ inl q ↦ absurd (d p q) | inr q ↦ grind (arith, nat_tests, h) ]
  | inr p ↦ grind (arith, nat_tests, h)
]

-- the links once an edge is one
pub links_with : (es : List Edge) (i n : ℕ) → i < length es → AreFiled es n → (a b : ℕ) → is_linked (live_links (with_live es i true)) a b ≡ with_link (is_linked (live_links es)) (start_of es i) (end_of es i) a b
links_with es i n inside f a b = same_test _ _ forth back where
  forth : is_linked (live_links (with_live es i true)) a b ≡ true → with_link (is_linked (live_links es)) (start_of es i) (end_of es i) a b ≡ true
  forth h =
      let e : LiveEdge (with_live es i true) a b = edge_of_link (with_live es i true) a b h in
      let p : start_of es e.0 ≡ a = sym (live_starts es i true inside e.0) ∙ e.3 in
      let q : end_of es e.0 ≡ b = sym (live_ends es i true inside e.0) ∙ e.4 in
      elim (cases_eq e.0 i) [
        | inl k ↦ link_here (is_linked (live_links es)) (start_of es i) (end_of es i) a b (ap (start_of es) (sym k) ∙ p) (ap (end_of es) (sym k) ∙ q)
        | inr k ↦ link_more (is_linked (live_links es)) (start_of es i) (end_of es i) a b (subst (λ x. is_linked (live_links es) x b ≡ true) p (subst (λ x. is_linked (live_links es) (start_of es e.0) x ≡ true) q (linked_edge es e.0 (omega (arith, e.1, live_length es i true inside)) (sym (ap (λ x. x.live) (live_else es i true inside e.0 k)) ∙ e.2))))
      ]

  here : is_linked (live_links (with_live es i true)) (start_of es i) (end_of es i) ≡ true
  here =
      let linked = linked_edge (with_live es i true) i (omega (arith, inside, live_length es i true inside)) (ap (λ x. x.live) (live_here es i true inside)) in
      subst (λ x. is_linked (live_links (with_live es i true)) x (end_of es i) ≡ true) (live_starts es i true inside i)
      (subst (λ x. is_linked (live_links (with_live es i true)) (start_of (with_live es i true) i) x ≡ true) (live_ends es i true inside i) linked)

  back : with_link (is_linked (live_links es)) (start_of es i) (end_of es i) a b ≡ true → is_linked (live_links (with_live es i true)) a b ≡ true
  back h = elim (link_cases (is_linked (live_links es)) (start_of es i) (end_of es i) a b h) [
    | inl (p, q) ↦ subst (λ x. is_linked (live_links (with_live es i true)) x b ≡ true) p (subst (λ x. is_linked (live_links (with_live es i true)) (start_of es i) x ≡ true) q here)
    | inr l ↦
        let e : LiveEdge es a b = edge_of_link es a b l in
        let there : is_linked (live_links (with_live es i true)) (start_of es e.0) (end_of es e.0) ≡ true = elim (cases_eq e.0 i) [ inl k ↦ rw k here | inr k ↦ other_edge es i true inside e.0 k e.1 e.2 ] in
        subst (λ x. is_linked (live_links (with_live es i true)) x b ≡ true) e.3 (subst (λ x. is_linked (live_links (with_live es i true)) (start_of es e.0) x ≡ true) e.4 there)
  ]

-- the links once an edge is none
pub links_without : (es : List Edge) (i n : ℕ) → i < length es → AreFiled es n → (a b : ℕ) → is_linked (live_links (with_live es i false)) a b ≡ without_link (is_linked (live_links es)) (start_of es i) (end_of es i) a b
links_without es i n inside f a b = same_test _ _ forth back where
  forth : is_linked (live_links (with_live es i false)) a b ≡ true → without_link (is_linked (live_links es)) (start_of es i) (end_of es i) a b ≡ true
  forth h =
      let e : LiveEdge (with_live es i false) a b = edge_of_link (with_live es i false) a b h in
      let p : start_of es e.0 ≡ a = sym (live_starts es i false inside e.0) ∙ e.3 in
      let q : end_of es e.0 ≡ b = sym (live_ends es i false inside e.0) ∙ e.4 in
      let l : e.0 < length es = omega (arith, e.1, live_length es i false inside) in
      elim (cases_eq e.0 i) [
        | inl k ↦ absurd (true≢false (sym e.2 ∙ ap (λ j. (edge_at (with_live es i false) j).live) k ∙ ap (λ x. x.live) (live_here es i false inside)))
        | inr k ↦ link_left (is_linked (live_links es)) (start_of es i) (end_of es i) a b
            (subst (λ x. is_linked (live_links es) x b ≡ true) p (subst (λ x. is_linked (live_links es) (start_of es e.0) x ≡ true) q (linked_edge es e.0 l (sym (ap (λ x. x.live) (live_else es i false inside e.0 k)) ∙ e.2))))
            (λ x y. k (f.once e.0 i l inside (p ∙ sym x) (q ∙ sym y)))
      ]

  back : without_link (is_linked (live_links es)) (start_of es i) (end_of es i) a b ≡ true → is_linked (live_links (with_live es i false)) a b ≡ true
  back h =
      let g = link_gone (is_linked (live_links es)) (start_of es i) (end_of es i) a b h in
      let e : LiveEdge es a b = edge_of_link es a b g.0 in
      let apart : e.0 ≢ i = λ k. g.1 (ap (start_of es) (sym k) ∙ e.3) (ap (end_of es) (sym k) ∙ e.4) in
      subst (λ x. is_linked (live_links (with_live es i false)) x b ≡ true) e.3 (subst (λ x. is_linked (live_links (with_live es i false)) (start_of es e.0) x ≡ true) e.4 (other_edge es i false inside e.0 apart e.1 e.2))

-- A new edge.

module _ (es : List Edge) (e : Edge) (n : ℕ) (filed : AreFiled es n) (starts : e.from < n) (ends : e.to < n) (new : Finds es e.from e.to None)
    (ins : e.earlier_in ≡ latest (end_of es) (length es) e.to) (outs : e.earlier_out ≡ latest (start_of es) (length es) e.from) where
  abbrev more : List Edge
  more = es ++ e ∷ []

  more_length : length more ≡ length es + 1
  more_length = length-append es (e ∷ [])

  more_early : (j : ℕ) → j < length es → edge_at more j ≡ edge_at es j
  more_early j h = get_or_append_left es (e ∷ []) no_edge j h

  more_last : edge_at more (length es) ≡ e
  more_last = get_or-append_seam es e [] no_edge

  more_at : (j : ℕ) → j < length more → (j < length es) ⊎ (j ≡ length es)
  more_at j h = elim (cases_lt j (length es)) [ inl l ↦ inl l | inr l ↦ inr (omega (arith, h, more_length)) ]

  apart : (j : ℕ) → j < length es → start_of es j ≡ e.from → end_of es j ≡ e.to → ⊥
  apart j h a b = new j h a b

  once_more : (i j : ℕ) → i < length more → j < length more → start_of more i ≡ start_of more j → end_of more i ≡ end_of more j → i ≡ j
  once_more i j h k a b = elim (more_at i h) [
    | inl l ↦ elim (more_at j k) [
      | inl m ↦ filed.once i j l m (ap (λ x. x.from) (sym (more_early i l)) ∙ a ∙ ap (λ x. x.from) (more_early j m)) (ap (λ x. x.to) (sym (more_early i l)) ∙ b ∙ ap (λ x. x.to) (more_early j m))
      | inr m ↦ absurd (apart i l (ap (λ x. x.from) (sym (more_early i l)) ∙ a ∙ ap (λ x. x.from) (ap (edge_at more) m ∙ more_last)) (ap (λ x. x.to) (sym (more_early i l)) ∙ b ∙ ap (λ x. x.to) (ap (edge_at more) m ∙ more_last)))
    ]
    | inr l ↦ elim (more_at j k) [
      | inl m ↦ absurd (apart j m (ap (λ x. x.from) (sym (more_early j m)) ∙ sym a ∙ ap (λ x. x.from) (ap (edge_at more) l ∙ more_last)) (ap (λ x. x.to) (sym (more_early j m)) ∙ sym b ∙ ap (λ x. x.to) (ap (edge_at more) l ∙ more_last)))
      | inr m ↦ l ∙ sym m
    ]
  ]

  -- what was before an edge is so still
  earlier_more : (key : Edge → ℕ) (i k : ℕ) → i ≤ length es → latest (λ j. key (edge_at es j)) i k ≡ latest (λ j. key (edge_at more j)) i k
  earlier_more key i k h = latest_same (λ j. key (edge_at es j)) (λ j. key (edge_at more j)) i k (λ j l. ap key (sym (more_early j (omega arith))))

  pub more_filed : AreFiled more n
  more_filed = record {
    starts = λ i h. elim (more_at i h) [ inl l ↦ subst (λ (x : Edge). x.from < n) (sym (more_early i l)) (filed.starts i l) | inr l ↦ subst (λ (x : Edge). x.from < n) (sym (ap (edge_at more) l ∙ more_last)) starts ];
    ends = λ i h. elim (more_at i h) [ inl l ↦ subst (λ (x : Edge). x.to < n) (sym (more_early i l)) (filed.ends i l) | inr l ↦ subst (λ (x : Edge). x.to < n) (sym (ap (edge_at more) l ∙ more_last)) ends ];
    once = once_more;
    earlier_in = λ i h. elim (more_at i h) [
      | inl l ↦ ap (λ x. x.earlier_in) (more_early i l) ∙ filed.earlier_in i l ∙ earlier_more (λ x. x.to) i (end_of es i) (omega arith) ∙ ap (λ x. latest (end_of more) i x.to) (sym (more_early i l))
      | inr l ↦ ap (λ x. x.earlier_in) (ap (edge_at more) l ∙ more_last) ∙ ins ∙ earlier_more (λ x. x.to) (length es) e.to (omega arith) ∙ ap (λ x. latest (end_of more) (length es) x.to) (sym more_last) ∙ ap (λ k. latest (end_of more) k (end_of more k)) (sym l)
    ];
    earlier_out = λ i h. elim (more_at i h) [
      | inl l ↦ ap (λ x. x.earlier_out) (more_early i l) ∙ filed.earlier_out i l ∙ earlier_more (λ x. x.from) i (start_of es i) (omega arith) ∙ ap (λ x. latest (start_of more) i x.from) (sym (more_early i l))
      | inr l ↦ ap (λ x. x.earlier_out) (ap (edge_at more) l ∙ more_last) ∙ outs ∙ earlier_more (λ x. x.from) (length es) e.from (omega arith) ∙ ap (λ x. latest (start_of more) (length es) x.from) (sym more_last) ∙ ap (λ k. latest (start_of more) k (start_of more k)) (sym l)
    ];
  }

  -- the last edge of a place
  last_more : (key : Edge → ℕ) (last : List ℕ) (p : ℕ) → key e < length last → p < length last → get_or last p 0 ≡ latest (λ j. key (edge_at es j)) (length es) p
      → get_or (set last (key e) (length es + 1)) p 0 ≡ latest (λ j. key (edge_at more j)) (length more) p
  last_more key last p h k f = elim (cases_eq (key e) p) [
    | inl q ↦ ap (λ t. get_or (set last t (length es + 1)) p 0) q ∙ get_or-set_same last p (length es + 1) 0 k ∙ sym (ap (λ m. latest (λ j. key (edge_at more j)) m p) (more_length ∙ one) ∙ found q) ∙ refl
    | inr d ↦ get_or-set_other last (key e) p (length es + 1) 0 (λ x. d (sym x)) ∙ f ∙ earlier_more key (length es) p (omega arith) ∙ sym (ap (λ m. latest (λ j. key (edge_at more j)) m p) (more_length ∙ one) ∙ passed d)
  ] where
    one : length es + 1 ≡ suc (length es)
    one = omega arith

    here : key (edge_at more (length es)) ≡ key e
    here = ap key more_last

    found : key e ≡ p → latest (λ j. key (edge_at more j)) (suc (length es)) p ≡ length es + 1
    found q = let t : eqb (key (edge_at more (length es))) p ≡ true = (let w = here ∙ q in grind (arith, nat_tests, w)) in ap (λ b. cond b (suc (length es)) (latest (λ j. key (edge_at more j)) (length es) p)) t ∙ sym one

    passed : key e ≢ p → latest (λ j. key (edge_at more j)) (suc (length es)) p ≡ latest (λ j. key (edge_at more j)) (length es) p
    passed d = let t : eqb (key (edge_at more (length es))) p ≡ false = (let w : key (edge_at more (length es)) ≢ p = λ x. d (sym here ∙ x) in grind (arith, nat_tests, w)) in ap (λ b. cond b (suc (length es)) (latest (λ j. key (edge_at more j)) (length es) p)) t

  pub more_sound : (ranks last_in last_out : List ℕ) → n ≡ length ranks → IsSound (record { ranks = ranks; last_in = last_in; last_out = last_out; edges = es }) → get_or ranks e.to 0 < get_or ranks e.from 0
      → IsSound (record { ranks = ranks; last_in = set last_in e.to (length es + 1); last_out = set last_out e.from (length es + 1); edges = more })
  more_sound ranks last_in last_out w s low = record {
    ordered = record {
      lower = lower_edges ranks more (λ j l t. elim (more_at j l) [
        | inl m ↦ subst (λ (x : Edge). get_or ranks x.to 0 < get_or ranks x.from 0) (sym (more_early j m)) (s.ordered.lower (start_of es j) (end_of es j) (linked_edge es j m (ap (λ x. x.live) (sym (more_early j m)) ∙ t)))
        | inr m ↦ subst (λ (x : Edge). get_or ranks x.to 0 < get_or ranks x.from 0) (sym (ap (edge_at more) m ∙ more_last)) low
      ]);
      inside = linked_places more (length ranks) (subst (AreFiled more) w more_filed);
      small = s.ordered.small;
      few = s.ordered.few;
    };
    filed = subst (AreFiled more) w more_filed;
    in_length = length-set last_in e.to (length es + 1) ∙ s.in_length;
    out_length = length-set last_out e.from (length es + 1) ∙ s.out_length;
    last_in = λ p l. last_more (λ x. x.to) last_in p (omega (arith, ends, w, s.in_length)) (omega (arith, l, s.in_length)) (s.last_in p l);
    last_out = λ p l. last_more (λ x. x.from) last_out p (omega (arith, starts, w, s.out_length)) (omega (arith, l, s.out_length)) (s.last_out p l);
  }

-- the links with that of a new edge
pub links_more : (es : List Edge) (e : Edge) (a b : ℕ) → e.live ≡ true → is_linked (live_links (es ++ e ∷ [])) a b ≡ with_link (is_linked (live_links es)) e.from e.to a b
links_more [] e a b h = rw h refl
links_more (x ∷ xs) e a b h = let r = links_more xs e a b h in elim (bool_cases x.live) [ inl t ↦ grind (arith, nat_tests, r, t) | inr f ↦ grind (arith, nat_tests, r, f) ]

-- A graph is kept.

pub kept_again : (g h : Graph) → IsKept g → IsSound (net_of h) → base_of h ≡ base_of g → h.places ≡ g.places → h.links ≡ g.links → length g.ranks.items ≤ length h.ranks.items → length g.edges.items ≤ length h.edges.items
    → length h.slots.items ≡ length h.ranks.items → IsKept h
kept_again g h k now base places links more edges slots = record {
  now = now;
  base = subst IsSound (sym base) k.base;
  places = let l = k.places in let e : h.places.length ≡ g.places.length = ap (λ m. m.length) places in omega arith;
  links = let l = k.links in let e : h.links.length ≡ g.links.length = ap (λ m. m.length) links in omega arith;
  slots = slots;
}

pub net_path : (n : Net) (ranks last_in last_out : List ℕ) (edges : List Edge) → n.ranks ≡ ranks → n.last_in ≡ last_in → n.last_out ≡ last_out → n.edges ≡ edges → n ≡ record { ranks = ranks; last_in = last_in; last_out = last_out; edges = edges }
net_path n ranks last_in last_out edges a b c d =
    ap (λ x. record { ranks = x; last_in = n.last_in; last_out = n.last_out; edges = n.edges }) a
    ∙ ap (λ x. record { ranks = ranks; last_in = x; last_out = n.last_out; edges = n.edges }) b
    ∙ ap (λ x. record { ranks = ranks; last_in = last_in; last_out = x; edges = n.edges }) c
    ∙ ap (λ x. record { ranks = ranks; last_in = last_in; last_out = last_out; edges = x }) d

-- where a link is not there, its removal changes nothing
pub without_absent : (linked : ℕ → ℕ → Bool) (from to a b : ℕ) → linked from to ≡ false → linked a b ≡ without_link linked from to a b
without_absent linked from to a b h = elim (cases_eq from a) [
  | inl p ↦ elim (cases_eq to b) [
    | inl q ↦ let e : linked a b ≡ false = subst (λ x. linked x b ≡ false) p (subst (λ y. linked from y ≡ false) q h) in grind (arith, nat_tests, e)
    | inr q ↦ grind (arith, nat_tests)
  ]
  | inr p ↦ grind (arith, nat_tests)
]

-- what was not found is no link
pub unfound : (es : List Edge) (from to : ℕ) → Finds es from to None → is_linked (live_links es) from to ≡ false
unfound es from to f = elim (bool_cases (is_linked (live_links es) from to)) [
  | inl t ↦ let e : LiveEdge es from to = edge_of_link es from to t in absurd (f e.0 e.1 e.3 e.4)
  | inr n ↦ n
]

-- an edge between places without a link is none
pub dead : (es : List Edge) (from to i : ℕ) → Finds es from to (Some i) → is_linked (live_links es) from to ≡ false → (edge_at es i).live ≡ false
dead es from to i f h = elim (bool_cases (edge_at es i).live) [
  | inl t ↦ absurd (true≢false (sym (subst (λ x. is_linked (live_links es) x to ≡ true) f.1 (subst (λ x. is_linked (live_links es) (start_of es i) x ≡ true) f.2 (linked_edge es i f.0 t))) ∙ h))
  | inr n ↦ n
]

-- an edge between places with a link is one
pub alive : (es : List Edge) (n from to i : ℕ) → AreFiled es n → Finds es from to (Some i) → is_linked (live_links es) from to ≡ true → (edge_at es i).live ≡ true
alive es n from to i filed f h =
    let e : LiveEdge es from to = edge_of_link es from to h in
    subst (λ j. (edge_at es j).live ≡ true) (filed.once e.0 i e.1 f.0 (e.3 ∙ sym f.1) (e.4 ∙ sym f.2)) e.2

-- A place more.

latest_zero : (key : ℕ → ℕ) (n k : ℕ) → ((i : ℕ) → i < n → key i ≢ k) → latest key n k ≡ 0
latest_zero key zero k h = refl
latest_zero key (suc n) k h = let e = latest_zero key n k (λ i l. h i (omega arith)) in let d = h n (omega arith) in grind (arith, nat_tests, e, d)

-- an empty place at the end of a list
end_at : (xs : List ℕ) (p : ℕ) → get_or (xs ++ 0 ∷ []) p 0 ≡ get_or xs p 0
end_at [] zero = refl
end_at [] (suc p) = refl
end_at (x ∷ xs) zero = refl
end_at (x ∷ xs) (suc p) = end_at xs p

last_empty : (key : ℕ → ℕ) (last : List ℕ) (n p : ℕ) → p < length last + 1 → ((i : ℕ) → i < n → key i < length last) → ((q : ℕ) → q < length last → get_or last q 0 ≡ latest key n q) → get_or (last ++ 0 ∷ []) p 0 ≡ latest key n p
last_empty key last n p h inside f = elim (cases_lt p (length last)) [
  | inl l ↦ end_at last p ∙ f p l
  | inr l ↦ end_at last p ∙ get_or_past last p 0 l ∙ sym (latest_zero key n p (λ i k e. let m = inside i k in omega arith))
]

pub place_sound : (n : Net) → IsSound n → length n.ranks + 1 < 2 ^ 32 → IsSound (with_empty_place n)
place_sound n s few =
    let more : length (n.ranks ++ 0 ∷ []) ≡ length n.ranks + 1 = length-append n.ranks (0 ∷ []) in
    record {
      ordered = record {
        lower = λ a b h. rw (end_at n.ranks a, end_at n.ranks b) (s.ordered.lower a b h);
        inside = λ a b h. let w = s.ordered.inside a b h in (omega (arith, w.0), omega (arith, w.1));
        small = λ p. rw (end_at n.ranks p) (s.ordered.small p);
        few = omega arith;
      };
      filed = record {
        starts = λ i h. let l = s.filed.starts i h in omega arith;
        ends = λ i h. let l = s.filed.ends i h in omega arith;
        once = s.filed.once;
        earlier_in = s.filed.earlier_in;
        earlier_out = s.filed.earlier_out;
      };
      in_length = length-append n.last_in (0 ∷ []) ∙ ap (λ k. k + 1) s.in_length ∙ sym more;
      out_length = length-append n.last_out (0 ∷ []) ∙ ap (λ k. k + 1) s.out_length ∙ sym more;
      last_in = λ p h. last_empty (end_of n.edges) n.last_in (length n.edges) p (let e = s.in_length in omega arith) (λ i l. let m = s.filed.ends i l in let e = s.in_length in omega arith) (λ q l. s.last_in q (let e = s.in_length in omega arith));
      last_out = λ p h. last_empty (start_of n.edges) n.last_out (length n.edges) p (let e = s.out_length in omega arith) (λ i l. let m = s.filed.starts i l in let e = s.out_length in omega arith) (λ q l. s.last_out q (let e = s.out_length in omega arith));
    }

-- New ranks.

-- links that are the old ones and a new one, at ranks that fit it
pub fits_raises : (old new : Order) (from to : ℕ) → FitsOrder old from to new.ranks → IsOrdered new → ((a b : ℕ) → is_linked new.links a b ≡ with_link (is_linked old.links) from to a b) → Raises old new from to
fits_raises old new from to f o l = record {
  linked = l;
  ranks = f.ranks;
  chainless = chainless (with_link (is_linked old.links) from to) (λ p. get_or new.ranks p 0) f.lower;
  ordered = o;
}

-- a link that leads lower fits the ranks as they are
pub fits_now : (o : Order) (from to : ℕ) → IsOrdered o → get_or o.ranks to 0 < get_or o.ranks from 0 → FitsOrder o from to o.ranks
fits_now o from to ord low = record {
  ranks = (o.ranks, record { by = 0; length_kept = refl; changed = λ p d. absurd (d refl); alike = λ p. inl refl; risen = λ p. omega arith }, record { low = λ e. refl; high = λ e. record { same_length = refl; below = λ p q a b l. l; equal = λ p q a b l. l } });
  lower = λ a b h. elim (link_cases (is_linked o.links) from to a b h) [
    | inl (p, q) ↦ subst (λ x. get_or o.ranks b 0 < get_or o.ranks x 0) p (subst (λ x. get_or o.ranks x 0 < get_or o.ranks from 0) q low)
    | inr l ↦ ord.lower a b l
  ];
  small = ord.small;
  length_kept = refl;
}

-- a link that is there already changes nothing
pub raises_again : (o : Order) (from to : ℕ) → IsOrdered o → is_linked o.links from to ≡ true → Raises o o from to
raises_again o from to ord h =
    let same : (a b : ℕ) → is_linked o.links a b ≡ with_link (is_linked o.links) from to a b = λ a b. same_test _ _ (link_more (is_linked o.links) from to a b) (λ k. elim (link_cases (is_linked o.links) from to a b k) [ inl (p, q) ↦ subst (λ x. is_linked o.links x b ≡ true) p (subst (λ x. is_linked o.links from x ≡ true) q h) | inr l ↦ l ]) in
    fits_raises o o from to (fits_now o from to ord (ord.lower from to h)) ord same

-- What was found tells whether the link is there.

pub there : (es : List Edge) (from to : ℕ) (found : Option ℕ) (live : Bool) → Finds es from to found → IfNone found (live ≡ false) → IfSome found (λ i. live ≡ (edge_at es i).live) → live ≡ true → is_linked (live_links es) from to ≡ true
there es from to None live f n s h = absurd (true≢false (sym h ∙ n))
there es from to (Some i) live f n s h = subst (λ x. is_linked (live_links es) x to ≡ true) f.1 (subst (λ x. is_linked (live_links es) (start_of es i) x ≡ true) f.2 (linked_edge es i f.0 (sym s ∙ h)))

pub not_there : (es : List Edge) (n from to : ℕ) (found : Option ℕ) (live : Bool) → AreFiled es n → Finds es from to found → IfSome found (λ i. live ≡ (edge_at es i).live) → live ≡ false → is_linked (live_links es) from to ≡ true → ⊥
not_there es n from to None live filed f s h l = true≢false (sym l ∙ unfound es from to f)
not_there es n from to (Some i) live filed f s h l = true≢false (sym (alive es n from to i filed f l) ∙ sym s ∙ h)

-- what is written fits as the plan does
pub plan_fits : (ranks old new : List ℕ) (es fs : List Edge) (from to : ℕ) (items ws : List Write) → FitsOrder (record { ranks = ranks; links = live_links fs }) from to (written ranks items)
    → fs ≡ es → new ≡ written old ws → old ≡ ranks → ws ≡ items → FitsOrder (record { ranks = ranks; links = live_links es }) from to new
plan_fits ranks old new es fs from to items ws f e n o w =
    subst (FitsOrder (record { ranks = ranks; links = live_links es }) from to) (sym (n ∙ ap (λ l. written l ws) o ∙ ap (written ranks) w))
    (subst (λ l. FitsOrder (record { ranks = ranks; links = live_links l }) from to (written ranks items)) e f)
