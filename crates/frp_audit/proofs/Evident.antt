-- True evidence over past moments: what its rules say of its last sight is what agreeing asks, and so another sight at the time, with
-- all that the program has then, has the links that the evidence shows.
use Rattle.std.proofs.Common.{◌≡◌, ℕ, zero, suc, ◌<◌, Bool, true, false, List, [], ◌∷◌, ◌++◌, map, length, Option, Some, None, refl, sym, ap, ◌∙◌, subst, arith}
use Rattle.std.proofs.Common.{inl, inr}
use Rattle.std.specs.Prelude.{nat_lt, is_some}
use Rattle.std.specs.List.{AllByRecursion}
use Rattle.std.proofs.lemmas.Bool.Decides.{nat_tests}
use Rattle.frp_base.specs.declared.name.Name.{Name}
use Rattle.frp_base.specs.declared.val.Val.{Val}
use Rattle.frp_base.specs.Name.{name_eq}
use Rattle.frp_base.proofs.Booleans.{chosen}
use Rattle.frp_base.proofs.Lists.{all_front, all_follow}
use Rattle.frp_graph.specs.declared.prog.Prog.{Prog}
use Rattle.frp_graph.specs.declared.limits.Limits.{Limits}
use Rattle.frp_graph.specs.declared.trace.Node.{Node}
use Rattle.frp_graph.specs.declared.trace.Moment.{Moment}
use Rattle.frp_graph.specs.declared.trace.Sent.{Sent}
use Rattle.frp_graph.specs.declared.shape.Shape.{Shape}
use Rattle.frp_graph.specs.declared.shape.Shape.TheVariants.{Execute}
use Rattle.frp_graph.specs.declared.evidence.Evidence.{Evidence}
use Rattle.frp_graph.specs.declared.evidence.Phase.TheVariants.{Birth, During}
use Rattle.frp_graph.specs.declared.evidence.Ranked.{Ranked}
use Rattle.frp_graph.specs.Trace.{Sight, node_in, live, post_in, sight_of}
use Rattle.frp_graph.specs.Roles.{Execution, execution}
use Rattle.frp_graph.specs.Births.{Plan, Instance, file_plans, instance_in, plans_of, plans_by, plan_as}
use Rattle.frp_graph.specs.Evidence.{rank_in, has_lower_rank, is_below, ranks_lower, LeadsToChain, HasFirst, HasFirstAs, can_make, is_whole, MeetsRules}
use Rattle.frp_graph.specs.FirstValues.{IsMade, IsMadeAs, are_all_born}
use Rattle.frp_graph.specs.Links.{during_links, is_new, links, is_linked}
use Rattle.frp_graph.specs.TypedProg.{IsTypedProg}
use Rattle.frp_graph.proofs.Nodes.{found_named, found_holds}
use Rattle.frp_graph.proofs.Lists.{name_same}
use Rattle.frp_audit.proofs.Ranks.{In, Distinct, Low}
use Rattle.frp_audit.proofs.Ways.{low_unled}
use Rattle.frp_audit.proofs.Seen.{shown_allowed}
use Rattle.frp_audit.proofs.Sides.{Extends, holds}
use Rattle.frp_audit.proofs.Plans.{executed}
use Rattle.frp_audit.proofs.Back.{reads_back}
use Rattle.frp_audit.proofs.Makers.{AreMade}
use Rattle.frp_audit.proofs.Agreeing.{IsSide}
use Rattle.frp_audit.proofs.Pasts as pasts
use Rattle.frp_audit.proofs.Pasts.{Earlier, older, IsPast, extends, once_grown, new_node}
use Rattle.frp_audit.proofs.Settled.{named_in}

-- Ranks.

abbrev pub rank_or : ℕ → Option ℕ → ℕ
rank_or most None = most
rank_or most (Some r) = r

-- what holds of each name that is ranked holds of one that has a rank
ranked : (P : Name → Type 0) (rs : List Ranked) (n : Name) (r : ℕ) → rank_in rs n ≡ Some r → AllByRecursion (λ q. P q.node) rs → P n
ranked P [] n r e h = absurd cc
ranked P (q ∷ rs) n r e h = elim (chosen (name_eq q.node n) q.rank r (rank_in rs n) e) [
  | inl f ↦ subst P (name_same q.node n f.0) h.0
  | inr f ↦ ranked P rs n r f.1 h.1
]

lt_test : (a b : ℕ) → a < b → nat_lt a b ≡ true
lt_test a b h = grind (arith, nat_tests)

test_lt : (a b : ℕ) → nat_lt a b ≡ true → a < b
test_lt a b h = grind (arith, nat_tests)

below_some : (o : Option ℕ) (most : ℕ) → has_lower_rank o most ≡ true → (r : ℕ) × (o ≡ Some r) × (r < most)
below_some None most h = absurd cc
below_some (Some r) most h = (r, refl, test_lt r most h)

pub below_rank : (ranks : List Ranked) (level : ℕ) (n : Name) → is_below ranks level n ≡ true → rank_or level (rank_in ranks n) < level
below_rank ranks level n h =
    let r = below_some (rank_in ranks n) level h in
    let same : rank_or level (rank_in ranks n) ≡ r.0 = ap (rank_or level) r.1 in
    let less : r.0 < level = r.2 in
    omega arith

pub rank_below : (ranks : List Ranked) (level : ℕ) (n : Name) → rank_or level (rank_in ranks n) < level → is_below ranks level n ≡ true
rank_below ranks level n = by (rank_in ranks n) where
  by : (o : Option ℕ) → rank_or level o < level → has_lower_rank o level ≡ true
  by None h = absurd (omega arith)
  by (Some r) h = lt_test r level h

lower_rank : (ranks : List Ranked) (level : ℕ) (a b : Name) → ranks_lower ranks a b ≡ true → rank_or level (rank_in ranks b) < rank_or level (rank_in ranks a)
lower_rank ranks level a b = by (rank_in ranks a) refl where
  by : (o : Option ℕ) → rank_in ranks a ≡ o → ranks_lower ranks a b ≡ true → rank_or level (rank_in ranks b) < rank_or level (rank_in ranks a)
  by None e = rw e (λ h. absurd cc)
  by (Some r) e = rw e (λ h.
      let q = below_some (rank_in ranks b) r h in
      let same : rank_or level (rank_in ranks b) ≡ q.0 = ap (rank_or level) q.1 in
      let less : q.0 < r = q.2 in
      omega arith)

made_as : (o : Option Plan) (x : Node) → IsMadeAs o x → (d : Plan) × (o ≡ Some d) × IsMade d x
made_as None x h = absurd h
made_as (Some d) x h = (d, refl, h)

first_as : (prog : Prog) (w : Sight) (o : Option Plan) (x : Node) → IsMadeAs o x → HasFirstAs prog w o x → (d : Plan) × (o ≡ Some d) × IsMade d x × HasFirst prog w d x
first_as prog w None x h f = absurd h
first_as prog w (Some d) x h f = (d, refl, h, f)

module _ (prog : Prog) (typed : IsTypedProg prog) (limits : Limits) (sends : List Sent) (k : ℕ) (past : List Moment) (e : Evidence) (rules : MeetsRules prog limits sends k past e)
    (is_past : IsPast prog past) (earlier : Earlier e.last.time past) where
  abbrev pub w : Sight
  w = sight_of past e.last

  abbrev pub below : Name → Bool
  below n = is_below e.ranks e.level n

  abbrev pub rank : Name → ℕ
  rank n = rank_or e.level (rank_in e.ranks n)

  live_below : (n : Name) → below n ≡ true → is_some (w.node n) ≡ true
  live_below n h =
      let r = below_some (rank_in e.ranks n) e.level h in
      ranked (λ m. is_some (w.node m) ≡ true) e.ranks n r.0 r.1 rules.ranked.only_live

  pub only : AllByRecursion (λ f. is_some (w.node f.node) ≡ true) e.last.fired
  only = all_follow (λ f. below f.node ≡ true) (λ f. is_some (w.node f.node) ≡ true) (λ f h. live_below f.node h) e.last.fired rules.settled.facts_below

  planned : AllByRecursion (λ x. (d : Plan) × (plan_as prog w x.name ≡ Some d)) e.last.born
  planned =
      all_follow (λ x. IsMadeAs (plan_as prog w x.name) x) (λ x. (d : Plan) × (plan_as prog w x.name ≡ Some d))
      (λ x h. let p = made_as (plan_as prog w x.name) x h in (p.0, p.1)) e.last.born rules.births.consists

  pub ew : Extends (older past e.last.time) w
  ew = extends prog past is_past e.last earlier planned only

  -- no name is of two nodes
  pub once : Distinct (map (λ x. x.name) (live (past ++ e.last ∷ [])))
  once = once_grown prog past is_past e.last earlier planned only rules.births.born_rise

  pub born_is : (n : Name) (x : Node) → w.node n ≡ Some x → is_new w n ≡ true → node_in e.last.born n ≡ Some x
  born_is n x live new = sym (new_node prog past is_past e.last earlier planned only n new) ∙ live

  plan_of : (n : Name) (x : Node) → node_in e.last.born n ≡ Some x → (d : Plan) × (plan_as prog w n ≡ Some d) × IsMade d x × HasFirst prog w d x
  plan_of n x born =
      let c = found_holds (λ x. IsMadeAs (plan_as prog w x.name) x) e.last.born n x born rules.births.consists in
      let f = found_holds (λ x. HasFirstAs prog w (plan_as prog w x.name) x) e.last.born n x born rules.firsts.firsts in
      let p = first_as prog w (plan_as prog w x.name) x c f in
      (p.0, ap (plan_as prog w) (sym (found_named e.last.born n x born)) ∙ p.1, p.2, p.3)

  -- a node with a first value is neither on a closed chain of Birth nor leads to one
  unled : (d : Plan) (x : Node) (v : Val) → HasFirst prog w d x → x.first ≡ Some v → LeadsToChain (is_linked w Birth) x.name → ⊥
  unled d x v h f l = let none : x.first ≡ None = h.missing l in let both : ◌≡◌ {A = Option Val} None (Some v) = sym none ∙ f in cc

  -- what is born is there
  pub all_there : (ds : List Plan) → are_all_born e.last.born ds ≡ true → AllByRecursion (λ d. (y : Node) × (w.node d.name ≡ Some y)) ds
  all_there = pasts.all_there prog past is_past e.last earlier

  pub made : AreMade prog w
  made = record {
    plan = λ n x live new.
        let p = plan_of n x (born_is n x live new) in
        (p.0, p.1, p.2, λ v f. sym (p.3.there (unled p.0 x v p.3 f)) ∙ f);
    file = λ b. all_there (file_plans prog) (rules.births.file b);
  }

  -- Ways along links of Birth.

  abbrev names : List Name
  names = map (λ x. x.name) (live (past ++ e.last ∷ []))

  sources : (a b : Name) → is_linked w Birth a b ≡ true → In a names
  sources a b h = by (w.node a) refl where
    by : (o : Option Node) → w.node a ≡ o → In a names
    by (Some x) q = named_in (live (past ++ e.last ∷ [])) a x q
    by None q = absurd (let f : false ≡ true = rw q at h in cc)

  pub lows : (n : Name) (x : Node) (v : Val) → w.node n ≡ Some x → x.first ≡ Some v → (j : ℕ) × Low (is_linked w Birth) j n
  lows n x v live f = by (is_new w n) refl where
    by : (b : Bool) → is_new w n ≡ b → (j : ℕ) × Low (is_linked w Birth) j n
    by true new =
        let p = plan_of n x (born_is n x live new) in
        let none = subst (λ (m : Name). LeadsToChain (is_linked w Birth) m → ⊥) (ew.named n x live) (unled p.0 x v p.3 f) in
        (suc (length names), low_unled (is_linked w Birth) n names sources none)
    by false o =
        let own : is_new w x.name ≡ false = ap (is_new w) (ew.named n x live) ∙ o in
        (suc zero, λ m l. let none : false ≡ true = rw (live, own) at l in cc)

  -- Below the level.

  abbrev pub Below : Name → Type 0
  Below n = below n ≡ true

  named_below : (n : Name) (x : Node) → w.node n ≡ Some x → Below n → Below x.name
  named_below n x live b = ap below (ew.named n x live) ∙ b

  is_lower : (n : Name) (x : Node) → w.node n ≡ Some x → Below n → AllByRecursion (λ j. rank j < rank n) (links w During x)
  is_lower n x live b =
      all_follow (λ j. ranks_lower e.ranks x.name j ≡ true) (λ j. rank j < rank n)
      (λ j h. subst (λ (m : Name). rank j < rank m) (ew.named n x live) (lower_rank e.ranks e.level x.name j h))
      (links w During x) (rules.settled.links_lower n x live (named_below n x live b))

  -- the source of an execute is a link of it
  source_of : (P : Name → Type 0) (s : Shape) (c : Execution) → execution s ≡ Some c → AllByRecursion P (during_links w (post_in w) s) → P c.source
  source_of P (Execute a template kept) c h l =
      let of : Execution = record { source = a; template = template; kept = kept } in
      let same : of ≡ c = cc in
      subst P (ap (λ (d : Execution). d.source) same) l.0
  source_of P _ c h l = absurd cc

  whole_born : (x : Node) (i : Instance) → instance_in prog w x.name x.shape ≡ Some i → is_whole prog sends w e.last below x ≡ true → are_all_born e.last.born i.nodes ≡ true
  whole_born x i q h = rw q at h

  makes : (x : Node) (c : Execution) → execution x.shape ≡ Some c → below c.source ≡ true → is_some (w.occ c.source) ≡ true → can_make prog sends w e.last below x ≡ true
  makes x c q b o = rw (q, b, o) refl

  -- a node below the level has made all of its instance
  pub below_born : (n : Name) (x : Node) → w.node n ≡ Some x → Below n → are_all_born e.last.born (plans_by prog w x) ≡ true
  below_born n x live b = by (instance_in prog w x.name x.shape) refl where
    by : (o : Option Instance) → instance_in prog w x.name x.shape ≡ o → are_all_born e.last.born (plans_of o) ≡ true
    by None q = refl
    by (Some i) q =
        let c = executed prog w x.name x.shape i q in
        let lower = all_front (λ j. rank j < rank n) (during_links w (post_in w) x.shape) _ (is_lower n x live b) in
        let less : rank c.call.source < rank n = source_of (λ j. rank j < rank n) x.shape c.call c.executes lower in
        let under : rank n < e.level = below_rank e.ranks e.level n b in
        let source : below c.call.source ≡ true = rank_below e.ranks e.level c.call.source (omega arith) in
        let can = makes x c.call c.executes source (ap is_some c.fires) in
        whole_born x i q (rules.births.those_below n x live (named_below n x live b) can)

  below_there : (n : Name) (x : Node) → w.node n ≡ Some x → Below n → AllByRecursion (λ d. (y : Node) × (w.node d.name ≡ Some y)) (plans_by prog w x)
  below_there n x live b = all_there (plans_by prog w x) (below_born n x live b)

  pub side : IsSide prog sends w rank Below
  side = record {
    made = made;
    lows = lows;
    lower = is_lower;
    equations = λ n x live b. rules.settled.equations n x live (named_below n x live b);
    there = below_there;
    reads = λ n x shown fired live b s l formed.
        reads_back prog w shown fired formed x x.ty x.shape (shown_allowed prog w shown (holds w) fired n x formed s live)
        (all_front (λ m. fired m ≡ true) (during_links w (post_in w) x.shape) _ l)
        (rules.firsts.no_missing_read n x live (named_below n x live b));
  }
