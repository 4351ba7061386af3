-- The shapes owe what the ground asks.
use Rattle.std.proofs.Common.{◌≡◌, ℕ, Bool, true, false, List, [], ◌∷◌, ◌++◌, Option, Some, None, refl, sym, ap, ◌∙◌, subst}
use Rattle.std.specs.Prelude.{◌||◌, ◌&&◌, ◌==◌, is_some, option_map, option_and_then, map, filter, if◌then◌else◌}
use Rattle.std.specs.Option.{option_to_list}
use Rattle.std.specs.List.{AllByRecursion, list_any}
use Rattle.std.specs.Cmp.{unsigned_Decides}
use Rattle.frp_base.specs.declared.name.Name.{Name}
use Rattle.frp_base.specs.declared.val.Val.{Val, out-Val}
use Rattle.frp_base.specs.Time.{time_eq, parent_and_number}
use Rattle.frp_base.specs.Name.{birth}
use Rattle.frp_base.proofs.Booleans.{or_more}
use Rattle.frp_base.proofs.Lists.{all_front}
use Rattle.frp_graph.specs.declared.trace.Node.{Node}
use Rattle.frp_graph.specs.declared.trace.Sent.{Sent}
use Rattle.frp_graph.specs.declared.prog.Prog.{Prog}
use Rattle.frp_graph.specs.declared.shape.Shape.{Shape}
use Rattle.frp_graph.specs.declared.shape.Shape.TheVariants.{Sink, Never, Constant, Map, Filter, Filteropt, Merge, Snapshot, Split, Updates, Value, Loop, Hold, Mapc, Apply, Switchs, Switchc, Execute}
use Rattle.frp_graph.specs.Trace.{Sight, or_else, post_in}
use Rattle.frp_graph.specs.Applied.{target}
use Rattle.frp_graph.specs.Roles.{is_sink_shape, split_source}
use Rattle.frp_graph.specs.Sends.{is_sent_to, sent_values, sent_in, combined, join_of}
use Rattle.frp_graph.specs.Equations.{keep_if, split_item, row}
use Rattle.frp_graph.specs.Links.{targets, is_new, during_links}
use Rattle.frp_moment.specs.Stands.{is_among, is_place, Facts, Ground, is_link, IsGround}
use Rattle.frp_moment.specs.Ground.{place_in, places_of, with_facts, own_cell, firm_links, inner_link, has_item, starts, node_at, started_at, firm_at, row_by, inner_by, ground}
use Rattle.frp_moment.specs.Laws.{ShapesAreGround}

-- Tests.

same_place : (q : ℕ) → (q == q) ≡ true
same_place q = (unsigned_Decides q q).1 refl

or_false : (a b : Bool) → a || b ≡ false → (a ≡ false) × (b ≡ false)
or_false true b h = absurd cc
or_false false b h = (refl, h)

or_first : (a b : Bool) → a ≡ true → a || b ≡ true
or_first a b h = ap (λ c. c || b) h

not_there : {A : Type 0} (o : Option A) → is_some o ≡ false → o ≡ None
not_there None h = refl
not_there (Some x) h = absurd cc

-- Places.

among_first : (o : Option ℕ) (rest : List ℕ) (q : ℕ) → o ≡ Some q → is_among (option_to_list o ++ rest) q ≡ true
among_first o rest q e = rw e (or_first (q == q) _ (same_place q))

among_more : (o : Option ℕ) (rest : List ℕ) (q : ℕ) → is_among rest q ≡ true → is_among (option_to_list o ++ rest) q ≡ true
among_more None rest q h = h
among_more (Some p) rest q h = or_more (p == q) _ h

module _ (names : List Name) (a b : Facts) where
  -- two lists of facts have the same at the place of a name
  abbrev SameAt : Name → Type 0
  SameAt n = option_and_then a (place_in names n) ≡ option_and_then b (place_in names n)

  at_one : (o : Option ℕ) → ((q : ℕ) → o ≡ Some q → a q ≡ b q) → option_and_then a o ≡ option_and_then b o
  at_one None h = refl
  at_one (Some q) h = h q refl

  at_places : (ns : List Name) → ((q : ℕ) → is_among (places_of names ns) q ≡ true → a q ≡ b q) → AllByRecursion SameAt ns
  at_places [] h = tt
  at_places (n ∷ ns) h = (
    at_one (place_in names n) (λ q e. h q (among_first (place_in names n) (places_of names ns) q e)),
    at_places ns (λ q e. h q (among_more (place_in names n) (places_of names ns) q e)),
  )

  -- at the place of the cell that a switch follows
  at_inner : (o : Option Name) → ((q : ℕ) → is_place (option_and_then (place_in names) o) q ≡ true → a q ≡ b q) → (m : Name) → o ≡ Some m → SameAt m
  at_inner o h m e = at_one (place_in names m) (λ q p. h q (rw (e, p) (same_place q)))

module _ (prog : Prog) (sends : List Sent) (w : Sight) (names : List Name) (a b : Facts) where
  abbrev Same : Name → Type 0
  Same = SameAt names a b

  abbrev wa : Sight
  wa = with_facts w names a

  abbrev wb : Sight
  wb = with_facts w names b

  -- Rows.

  switchs_same : (p : Option Val) → AllByRecursion Same (targets p) → option_and_then (λ s. wa.occ (target s)) p ≡ option_and_then (λ s. wb.occ (target s)) p
  switchs_same None l = refl
  switchs_same (Some v) l = l.0

  abbrev inner_row : Sight → Name → Val → Option Val
  inner_row v c d = keep_if (is_some (v.occ c) || is_some (v.occ (target d))) (post_in v (target d))

  switchc_same : (c : Name) (o : Option Val) → Same c → ((d : Val) → o ≡ Some d → Same (target d)) → option_and_then (inner_row wa c) o ≡ option_and_then (inner_row wb c) o
  switchc_same c None e k = refl
  switchc_same c (Some d) e k = let i = k d refl in rw (e, i) refl

  post_same : (c : Name) → Same c → post_in wa c ≡ post_in wb c
  post_same c e = rw e refl

  row_same : (x : Node) (s : Shape) → AllByRecursion Same (during_links w (λ c. None) s) → ((m : Name) → inner_link wa s ≡ Some m → Same m) → row prog sends wa x s ≡ row prog sends wb x s
  row_same x Sink l i = refl
  row_same x Never l i = refl
  row_same x Constant l i = refl
  row_same x (Map f s) l i = rw l.0 refl
  row_same x (Filter f s) l i = rw l.0 refl
  row_same x (Filteropt s) l i = rw l.0 refl
  row_same x (Merge f p q) l i = rw (l.0, l.1.0) refl
  row_same x (Snapshot f s c) l i = rw l.0 refl
  row_same x (Split s) l i = refl
  row_same x (Updates c) l i = l.0
  row_same x (Value c) l i = rw l.0 refl
  row_same x (Loop to) l i = l.0
  row_same x (Hold s) l i = l.0
  row_same x (Mapc f c) l i = rw l.0 refl
  row_same x (Apply cf ca) l i = rw (l.0, l.1.0) refl
  row_same x (Switchs c) l i = switchs_same (w.pre c) l
  row_same x (Switchc c) l i =
      switchc_same c (post_in wa c) l.0 (λ d e. i (target d) (ap (option_map target) e))
      ∙ ap (option_and_then (inner_row wb c)) (post_same c l.0)
  row_same x (Execute s k kept) l i = rw l.0 refl

  pub row_reads : (o : Option Node) → ((q : ℕ) → is_among (firm_at prog sends w names o) q || is_place (inner_by prog sends w names a o) q ≡ true → a q ≡ b q)
      → row_by prog sends w names a o ≡ row_by prog sends w names b o
  row_reads None h = refl
  row_reads (Some x) h =
      let firm = at_places names a b (firm_links w x) (λ q e. h q (or_first _ _ e)) in
      row_same x x.shape (all_front Same (during_links w (λ c. None) x.shape) _ firm)
      (at_inner names a b (inner_link wa x.shape) (λ q e. h q (or_more (is_among (places_of names (firm_links w x)) q) _ e)))

  -- Inner links.

  inner_same : (s : Shape) → AllByRecursion Same (during_links w (λ c. None) s) → inner_link wa s ≡ inner_link wb s
  inner_same (Switchc c) l = ap (option_map target) (post_same c l.0)
  inner_same _ l = refl

  pub inner_reads : (o : Option Node) → ((q : ℕ) → is_among (firm_at prog sends w names o) q ≡ true → a q ≡ b q)
      → inner_by prog sends w names a o ≡ inner_by prog sends w names b o
  inner_reads None h = refl
  inner_reads (Some x) h =
      let firm = at_places names a b (firm_links w x) h in
      ap (option_and_then (place_in names)) (inner_same x.shape (all_front Same (during_links w (λ c. None) x.shape) _ firm))

-- Where nothing has fired.

module _ (prog : Prog) (sends : List Sent) (w : Sight) (names : List Name) where
  abbrev nothing : Facts
  nothing q = None

  abbrev quiet : Sight
  quiet = with_facts w names nothing

  none_in : (o : Option ℕ) → option_and_then nothing o ≡ None
  none_in None = refl
  none_in (Some q) = refl

  none_fires : (n : Name) → quiet.occ n ≡ None
  none_fires n = none_in (place_in names n)

  no_switchs : (p : Option Val) → option_and_then (λ s. quiet.occ (target s)) p ≡ None
  no_switchs None = refl
  no_switchs (Some v) = none_fires (target v)

  no_switchc : (c : Name) (o : Option Val) → option_and_then (λ d. keep_if (is_some (quiet.occ c) || is_some (quiet.occ (target d))) (post_in quiet (target d))) o ≡ None
  no_switchc c None = refl
  no_switchc c (Some d) = let e = none_fires c in let i = none_fires (target d) in rw (e, i) refl

  none_sent : (x : Node) (ss : List Sent) → list_any (is_sent_to w.time x.name) ss ≡ false → sent_values ss w.time x.name ≡ []
  none_sent x [] h = refl
  none_sent x (s ∷ ss) h = let p = or_false (is_sent_to w.time x.name s) _ h in rw p.0 (none_sent x ss p.1)

  nothing_gives : (x : Node) (s : Shape) → is_new w x.name ≡ false → (is_sink_shape s && list_any (is_sent_to w.time x.name) sends) ≡ false → has_item w x (split_source s) ≡ false
      → row prog sends quiet x s ≡ None
  nothing_gives x Sink n t g = rw (none_sent x sends t) refl
  nothing_gives x Never n t g = refl
  nothing_gives x Constant n t g = refl
  nothing_gives x (Map f s) n t g = rw (none_fires s) refl
  nothing_gives x (Filter f s) n t g = rw (none_fires s) refl
  nothing_gives x (Filteropt s) n t g = rw (none_fires s) refl
  nothing_gives x (Merge f p q) n t g = rw (none_fires p, none_fires q) refl
  nothing_gives x (Snapshot f s c) n t g = rw (none_fires s) refl
  nothing_gives x (Split s) n t g = not_there _ g
  nothing_gives x (Updates c) n t g = none_fires c
  nothing_gives x (Value c) n t g = rw n (none_fires c)
  nothing_gives x (Loop to) n t g = none_fires to
  nothing_gives x (Hold s) n t g = none_fires s
  nothing_gives x (Mapc f c) n t g = rw (none_fires c) refl
  nothing_gives x (Apply cf ca) n t g = rw (none_fires cf, none_fires ca) refl
  nothing_gives x (Switchs c) n t g = no_switchs (w.pre c)
  nothing_gives x (Switchc c) n t g = no_switchc c (post_in quiet c)
  nothing_gives x (Execute s k kept) n t g = rw (none_fires s) refl

  pub row_none : (a : Facts) (o : Option Node) → started_at prog sends w names o ≡ false
      → ((q : ℕ) → is_among (firm_at prog sends w names o) q || is_place (inner_by prog sends w names a o) q ≡ true → a q ≡ None) → row_by prog sends w names a o ≡ None
  row_none a None s h = refl
  row_none a (Some x) s h =
      let new = or_false (is_new w x.name) _ s in
      let others = or_false (is_sink_shape x.shape && list_any (is_sent_to w.time x.name) sends) _ new.1 in
      row_reads prog sends w names a nothing (Some x) h ∙ nothing_gives x x.shape new.0 others.0 others.1

pub shapes_are_ground : ShapesAreGround
shapes_are_ground prog sends w names = record {
  row_reads = λ a b p h. row_reads prog sends w names a b (node_at prog sends w names p) h;
  inner_reads = λ a b p h. inner_reads prog sends w names a b (node_at prog sends w names p) h;
  row_none = λ a p s h. row_none prog sends w names a (node_at prog sends w names p) s h;
}
