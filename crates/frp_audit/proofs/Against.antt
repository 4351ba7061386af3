-- True evidence against a moment that the program has at its time, with no closed chain: no chain is shown, and no room is wanting.
use Rattle.std.proofs.Common.{◌≡◌, ℕ, suc, ◌<◌, Bool, true, false, List, [], ◌∷◌, ◌++◌, length, Option, Some, None, refl, sym, ap, ◌∙◌, subst, arith, map, ◌+◌, length-append}
use Rattle.std.proofs.Common.{inl, inr}
use Rattle.std.specs.Prelude.{◌&&◌, not, nat_lt, is_some}
use Rattle.std.specs.List.{AllByRecursion}
use Rattle.std.proofs.lemmas.Bool.Decides.{nat_tests}
use Rattle.frp_base.specs.declared.name.Name.{Name}
use Rattle.frp_base.specs.declared.val.Val.{Val}
use Rattle.frp_base.specs.Name.{maker, birth, made_name}
use Rattle.frp_base.proofs.Booleans.{both_true, or_more}
use Rattle.frp_graph.specs.declared.prog.Prog.{Prog}
use Rattle.frp_graph.specs.declared.limits.Limits.{Limits}
use Rattle.frp_graph.specs.declared.trace.Node.{Node}
use Rattle.frp_graph.specs.declared.trace.Moment.{Moment}
use Rattle.frp_graph.specs.declared.trace.Sent.{Sent}
use Rattle.frp_graph.specs.declared.shape.Shape.{Shape}
use Rattle.frp_graph.specs.declared.shape.Shape.TheVariants.{Execute}
use Rattle.frp_graph.specs.declared.evidence.Evidence.{Evidence}
use Rattle.frp_graph.specs.declared.evidence.Phase.{Phase}
use Rattle.frp_graph.specs.Trace.{Sight, post_in, sight_of, live}
use Rattle.frp_graph.specs.Roles.{Execution, execution}
use Rattle.frp_graph.specs.Births.{Instance, instance_in, plans_of, plans_by, Plan}
use Rattle.frp_graph.specs.Evidence.{has_reads, can_make, is_whole, is_of_whole, post_below, MeetsRules, IsFull}
use Rattle.frp_graph.specs.FirstValues.{are_all_born}
use Rattle.frp_graph.specs.Links.{is_new, is_linked_by, is_linked, is_closed_chain, IsChainless}
use Rattle.frp_graph.specs.Moments.{IsMoment}
use Rattle.frp_graph.specs.TypedProg.{IsTypedProg}
use Rattle.frp_graph.proofs.Nodes.{found_named, found_holds}
use Rattle.frp_graph.proofs.Options.{test_some}
use Rattle.frp_audit.proofs.Sides.{Extends, IsSame, Agrees}
use Rattle.frp_audit.proofs.Agreeing.{IsWhole, shown, fired, old_shown, shown_by, agrees_at}
use Rattle.frp_audit.proofs.Pasts.{Earlier, older, IsPast, fact_holds, moment_extends, moment_whole, all_there}
use Rattle.frp_audit.proofs.Settled.{named_in}
use Rattle.frp_audit.proofs.Deeper as deeper
use Rattle.frp_audit.proofs.Linked.{chain_more, links_more}
use Rattle.frp_audit.proofs.Evident as evident
use Rattle.frp_audit.proofs.Evident.{below_rank, rank_below}
use Rattle.frp_audit.proofs.OneTrace.{AreSent}
use Rattle.std.proofs.lemmas.List.{length-map}
use Rattle.frp_base.specs.Time.{time_eq}
use Rattle.frp_base.proofs.NameLemmas.{made_names_have_makers, made_names_are_born}
use Rattle.frp_graph.proofs.Lists.{time_eq-same}
use Rattle.frp_audit.proofs.Ranks.{In, no_more}
use Rattle.frp_audit.proofs.Apart.{found_in, in_either, distinct_join}
use Rattle.frp_audit.proofs.Plans.{AreNamed, made_named}

lt_test : (a b : ℕ) → a < b → nat_lt a b ≡ true
lt_test a b h = grind (arith, nat_tests)

module _ (prog : Prog) (typed : IsTypedProg prog) (limits : Limits) (sends : List Sent) (k : ℕ) (past : List Moment) (e : Evidence) (rules : MeetsRules prog limits sends k past e)
    (is_past : IsPast prog past) (m : Moment) (time : m.time ≡ e.last.time) (earlier : Earlier m.time past) (happens : IsMoment prog sends past m) (chainless : IsChainless (sight_of past m))
    (sent : AreSent prog sends past m.time) where
  pub earlier_e : Earlier e.last.time past
  earlier_e = subst (λ t. Earlier t past) time earlier

  abbrev old : Sight
  old = older past e.last.time

  abbrev w : Sight
  w = sight_of past e.last

  abbrev u : Sight
  u = sight_of past m

  abbrev below : Name → Bool
  below = evident.below prog typed limits sends k past e rules is_past earlier_e

  abbrev rank : Name → ℕ
  rank = evident.rank prog typed limits sends k past e rules is_past earlier_e

  abbrev Below : Name → Type 0
  Below = evident.Below prog typed limits sends k past e rules is_past earlier_e

  ew : Extends old w
  ew = evident.ew prog typed limits sends k past e rules is_past earlier_e

  eu : Extends old u
  eu = subst (λ t. Extends (older past t) u) time (moment_extends prog past is_past m earlier sends happens)

  all_u : IsWhole prog sends u
  all_u = record { made = moment_whole prog past is_past m earlier sends happens; equations = happens.equations }

  sent_e : AreSent prog sends past e.last.time
  sent_e = subst (AreSent prog sends past) time sent

  abbrev base : Name → Bool
  base = shown prog typed sends old w u ew eu rank Below (is_past.formed e.last.time) (evident.side prog typed limits sends k past e rules is_past earlier_e) all_u sent_e e.level

  abbrev done : Name → Bool
  done = fired prog typed sends old w u ew eu rank Below (is_past.formed e.last.time) (evident.side prog typed limits sends k past e rules is_past earlier_e) all_u sent_e e.level

  agrees : Agrees prog w u base done
  agrees =
      agrees_at prog typed sends old w u ew eu rank Below (is_past.formed e.last.time) (evident.side prog typed limits sends k past e rules is_past earlier_e) all_u sent_e e.level
      (λ n l. rank_below e.ranks e.level n l)

  olds : (n : Name) → is_new w n ≡ false → base n ≡ true
  olds n o = old_shown prog typed sends old w u ew eu rank Below (is_past.formed e.last.time) (evident.side prog typed limits sends k past e rules is_past earlier_e) all_u sent_e e.level n o

  files : (n : Name) → maker n ≡ None → base n ≡ true
  files n o =
      shown_by prog typed sends old w u ew eu rank Below (is_past.formed e.last.time) (evident.side prog typed limits sends k past e rules is_past earlier_e) all_u sent_e e.level n None o refl

  done_below : (n : Name) → below n ≡ true → done n ≡ true
  done_below n b = lt_test (rank n) e.level (below_rank e.ranks e.level n b)

  -- Makers.

  abbrev IsMaker : Name → Type 0
  IsMaker = deeper.IsMaker prog typed sends old w u ew eu (evident.made prog typed limits sends k past e rules is_past earlier_e) all_u.made base done olds files agrees
      (evident.lows prog typed limits sends k past e rules is_past earlier_e)

  made_reads : (z : Node) (s : Shape) (c : Execution) → execution s ≡ Some c → is_some (instance_in prog w z.name s) ≡ true → has_reads prog w z s ≡ true
  made_reads z (Execute a template kept) c h i = or_more (not (is_some (w.occ a))) _ i
  made_reads z _ c h i = absurd cc

  can_parts : (z : Node) → can_make prog sends w e.last below z ≡ true → (c : Execution) × (execution z.shape ≡ Some c) × (below c.source ≡ true)
  can_parts z = by (execution z.shape) refl where
    by : (o : Option Execution) → execution z.shape ≡ o → can_make prog sends w e.last below z ≡ true → (c : Execution) × (execution z.shape ≡ Some c) × (below c.source ≡ true)
    by None q = rw q (λ h. absurd cc)
    by (Some c) q = λ h. (c, q, (both_true (below c.source) (is_some (w.occ c.source)) (rw q at h)).0)

  whole_parts : (z : Node) → is_whole prog sends w e.last below z ≡ true → (i : Instance) × (instance_in prog w z.name z.shape ≡ Some i) × (are_all_born e.last.born i.nodes ≡ true)
  whole_parts z = by (instance_in prog w z.name z.shape) refl where
    by : (o : Option Instance) → instance_in prog w z.name z.shape ≡ o → is_whole prog sends w e.last below z ≡ true
        → (i : Instance) × (instance_in prog w z.name z.shape ≡ Some i) × (are_all_born e.last.born i.nodes ≡ true)
    by None q = λ h. absurd (let f : false ≡ true = rw q at h in cc)
    by (Some i) q = λ h. (i, q, rw q at h)

  abbrev HasMade : Name → Type 0
  HasMade = deeper.HasMade prog typed sends old w u ew eu (evident.made prog typed limits sends k past e rules is_past earlier_e) all_u.made base done olds files agrees
      (evident.lows prog typed limits sends k past e rules is_past earlier_e)

  -- a node that can make an instance which is there
  abbrev caller : (a : Name) (z : Node) → w.node a ≡ Some z → can_make prog sends w e.last below z ≡ true → is_some (instance_in prog w z.name z.shape) ≡ true → IsMaker a
  caller a z live can there =
      let c = can_parts z can in
      record { node = z; is_live = live; call = c.0; executes = c.1; source_fired = done_below c.0.source c.2; reads = made_reads z z.shape c.0 c.1 there }

  made_by : (a : Name) (z : Node) → w.node a ≡ Some z → can_make prog sends w e.last below z && is_whole prog sends w e.last below z ≡ true → HasMade a
  made_by a z live h =
      let p = both_true (can_make prog sends w e.last below z) (is_whole prog sends w e.last below z) h in
      let i = whole_parts z p.1 in
      let there = evident.all_there prog typed limits sends k past e rules is_past earlier_e i.0.nodes i.2 in (
        caller a z live p.0 (ap is_some i.1),
        subst (λ (o : Option Instance). AllByRecursion (λ d. (y : Node) × (w.node d.name ≡ Some y)) (plans_of o)) (sym i.1) there,
      )

  maker_from : (n a : Name) → maker n ≡ Some a → is_of_whole prog sends w e.last below n ≡ true → HasMade a
  maker_from n a of h = by (w.node a) refl where
    by : (o : Option Node) → w.node a ≡ o → HasMade a
    by None q = absurd (let f : false ≡ true = rw (of, q) at h in cc)
    by (Some z) q = made_by a z q (rw (of, q) at h)

  born_whole : (n : Name) (x : Node) → w.node n ≡ Some x → is_new w n ≡ true → is_of_whole prog sends w e.last below n ≡ true
  born_whole n x live new =
      let born = evident.born_is prog typed limits sends k past e rules is_past earlier_e n x live new in
      subst (λ (j : Name). is_of_whole prog sends w e.last below j ≡ true) (found_named e.last.born n x born)
      (found_holds (λ x. is_of_whole prog sends w e.last below x.name ≡ true) e.last.born n x born rules.births.whole)

  maker_of : (n : Name) (x : Node) (a : Name) → w.node n ≡ Some x → is_new w n ≡ true → maker n ≡ Some a → HasMade a
  maker_of n x a live new of = maker_from n a of (born_whole n x live new)

  -- All that is live by the evidence.

  abbrev few : ℕ → Name → Bool
  few = deeper.few prog typed sends old w u ew eu (evident.made prog typed limits sends k past e rules is_past earlier_e) all_u.made base done olds files agrees
      (evident.lows prog typed limits sends k past e rules is_past earlier_e) maker_of

  all_agree : (j : ℕ) → Agrees prog w u (few j) done
  all_agree = deeper.agrees_all prog typed sends old w u ew eu (evident.made prog typed limits sends k past e rules is_past earlier_e) all_u.made base done olds files agrees
      (evident.lows prog typed limits sends k past e rules is_past earlier_e) maker_of

  is_shown : (n : Name) → few (suc (length n)) n ≡ true
  is_shown = deeper.shown_in prog typed sends old w u ew eu (evident.made prog typed limits sends k past e rules is_past earlier_e) all_u.made base done olds files agrees
      (evident.lows prog typed limits sends k past e rules is_past earlier_e) maker_of

  pub nodes : (n : Name) (x : Node) → w.node n ≡ Some x → IsSame x (u.node n)
  nodes n x live = (all_agree (suc (length n))).same n x (is_shown n) live

  -- what fires by the evidence fires at the moment
  pub fires : (n : Name) (v : Val) → w.occ n ≡ Some v → u.occ n ≡ Some v
  fires n v q =
      let f = fact_holds (λ f. below f.node ≡ true) e.last.fired n v q rules.settled.facts_below in
      let x = ew.only_live n v q in
      agrees.occs n x.0 (done_below n (ap below (sym f.1) ∙ f.3)) x.1 ∙ q

  -- Links.

  abbrev after : Name → Option Val
  after = post_below prog sends w e.last below

  settled : (c : Name) (v : Val) → after c ≡ Some v → (done c ≡ true) × (post_in w c ≡ Some v)
  settled c v h = let p = test_some (below c) (post_in w c) v h in (done_below c p.0, p.1)

  linked : (phase : Phase) (a b : Name) → is_linked_by w after phase a b ≡ true → is_linked u phase a b ≡ true
  linked phase a b h = by (w.node a) refl where
    by : (o : Option Node) → w.node a ≡ o → is_linked u phase a b ≡ true
    by None q = absurd (let f : false ≡ true = rw q at h in cc)
    by (Some x) q =
        let s = nodes a x q in
        let there = s.found in
        let link = rw q at h in
        let more = links_more prog old w u ew eu (few (suc (length a))) done (all_agree (suc (length a))) after settled nodes a x (is_shown a) q s.node s.name s.shape s.ty phase b link in
        rw there more

  -- a closed chain that the evidence shows would be one of the moment
  pub no_chain : (phase : Phase) (names : List Name) → is_closed_chain (is_linked_by w after phase) names ≡ true → ⊥
  no_chain phase names h =
      let there = chain_more (is_linked_by w after phase) (is_linked u phase) (linked phase) names h in
      let none = chainless phase names in
      cc

  -- An instance for which there is no room.

  module _ (node : Name) (limit : ℕ) (full : IsFull prog sends w e.last below limits (length (live (past ++ e.last ∷ []))) node limit) where
    abbrev x : Node
    x = full.execute

    name : x.name ≡ node
    name = ew.named node x full.is_live

    abbrev calls : IsMaker node
    calls = caller node x full.is_live full.makes (ap is_some full.is_instance)

    same_made : instance_in prog u x.name x.shape ≡ Some full.instance
    same_made =
        deeper.other prog typed sends old w u ew eu (evident.made prog typed limits sends k past e rules is_past earlier_e) all_u.made base done olds files agrees
        (evident.lows prog typed limits sends k past e rules is_past earlier_e) maker_of (suc (length node)) (all_agree (suc (length node))) node calls (is_shown node)
        ∙ sym (deeper.own prog typed sends old w u ew eu (evident.made prog typed limits sends k past e rules is_past earlier_e) all_u.made base done olds files agrees
        (evident.lows prog typed limits sends k past e rules is_past earlier_e) maker_of (suc (length node)) (all_agree (suc (length node))) node calls (is_shown node))
        ∙ full.is_instance

    all_born : are_all_born m.born full.instance.nodes ≡ true
    all_born =
        let s = nodes node x full.is_live in
        let plans : plans_by prog u s.node ≡ full.instance.nodes
        = ap plans_of (ap (λ (n : Name). instance_in prog u n s.node.shape) s.name ∙ ap (instance_in prog u x.name) s.shape ∙ same_made) in
        subst (λ (ds : List Plan). are_all_born m.born ds ≡ true) plans (happens.born_exactly.each_is_born node s.node s.found)

    named : AreNamed (made_name x.name w.time) full.instance.nodes
    named = subst (λ (o : Option Instance). AreNamed (made_name x.name w.time) (plans_of o)) full.is_instance (made_named prog w x)

    name_among : (ds : List Plan) (n : Name) → In n (map (λ d. d.name) ds) → AllByRecursion (λ d. (i : ℕ) × (d.name ≡ made_name x.name w.time i)) ds
        → (i : ℕ) × (n ≡ made_name x.name w.time i)
    name_among [] n i h = absurd i
    name_among (d ∷ ds) n (inl q) h = (h.0.0, q ∙ h.0.1)
    name_among (d ∷ ds) n (inr r) h = name_among ds n r h.1

    there_among : (ds : List Plan) (n : Name) → In n (map (λ d. d.name) ds) → AllByRecursion (λ d. (y : Node) × (u.node d.name ≡ Some y)) ds → (y : Node) × (u.node n ≡ Some y)
    there_among [] n i h = absurd i
    there_among (d ∷ ds) n (inl q) h = (h.0.0, ap u.node q ∙ h.0.1)
    there_among (d ∷ ds) n (inr r) h = there_among ds n r h.1

    abbrev old_names : List Name
    old_names = map (λ x. x.name) (live (past ++ e.last ∷ []))

    abbrev new_names : List Name
    new_names = map (λ d. d.name) full.instance.nodes

    -- none of its nodes is born
    disjoint : (n : Name) → In n old_names → In n new_names → ⊥
    disjoint n a b =
        let z = found_in (live (past ++ e.last ∷ [])) n a in
        let i = name_among full.instance.nodes n b named.named in
        let new : is_new w n ≡ true = ap (λ t. time_eq t w.time) (ap birth i.1 ∙ made_names_are_born x.name w.time i.0) ∙ time_eq-same w.time in
        let long : 0 < length x.name = subst (λ (q : Name). 0 < length q) (sym name) (ew.nonempty node x full.is_live) in
        let of : maker n ≡ Some node = ap maker i.1 ∙ made_names_have_makers x.name w.time i.0 long ∙ ap Some name in
        let live_x : w.node node ≡ Some x = full.is_live in
        let parts : can_make prog sends w e.last below x && is_whole prog sends w e.last below x ≡ true = rw (of, live_x) at (born_whole n z.0 z.1 new) in
        let q = whole_parts x (both_true (can_make prog sends w e.last below x) (is_whole prog sends w e.last below x) parts).1 in
        let both : ◌≡◌ {A = Option Instance} (Some q.0) (Some full.instance) = ◌∙◌ {a = Some q.0} (sym {b = Some q.0} q.1) full.is_instance in
        let same : q.0 ≡ full.instance = cc in
        let born : are_all_born e.last.born full.instance.nodes ≡ true = subst (λ (i : Instance). are_all_born e.last.born i.nodes ≡ true) same q.2 in
        let unborn = full.unborn in
        cc

    within : (n : Name) → In n (old_names ++ new_names) → In n (map (λ x. x.name) (live (past ++ m ∷ [])))
    within n h = elim (in_either n old_names new_names h) [
      | inl a ↦ (let z = found_in (live (past ++ e.last ∷ [])) n a in let s = nodes n z.0 z.1 in named_in (live (past ++ m ∷ [])) n s.node s.found)
      | inr b ↦
          let all = all_there prog past is_past m earlier full.instance.nodes all_born in
          let y = there_among full.instance.nodes n b all in
          named_in (live (past ++ m ∷ [])) n y.0 y.1
    ]

    pub no_room : limits.nodes < length (live (past ++ m ∷ []))
    no_room =
        let once = evident.once prog typed limits sends k past e rules is_past earlier_e in
        let few = no_more (old_names ++ new_names) (map (λ x. x.name) (live (past ++ m ∷ []))) (distinct_join old_names new_names once named.once disjoint) within in
        let sum : length (old_names ++ new_names) ≡ length old_names + length new_names = simp length-append refl in
        let l : length old_names ≡ length (live (past ++ e.last ∷ [])) = length-map (live (past ++ e.last ∷ [])) (λ (x : Node). x.name) in
        let r : length new_names ≡ length full.instance.nodes = length-map full.instance.nodes (λ (d : Plan). d.name) in
        let t : length (map (λ (x : Node). x.name) (live (past ++ m ∷ []))) ≡ length (live (past ++ m ∷ [])) = length-map (live (past ++ m ∷ [])) (λ (x : Node). x.name) in
        let many : limit < length (live (past ++ e.last ∷ [])) + length full.instance.nodes = full.too_many in
        let is : limit ≡ limits.nodes = full.is_limit in
        omega arith
