-- Moments that are past: their nodes as they are seen at a later time, and what a moment adds to them.
use Rattle.std.proofs.Common.{◌≡◌, ℕ, ◌<◌, Bool, true, false, List, [], ◌∷◌, ◌++◌, length, Option, Some, None, refl, sym, ap, ◌∙◌, subst, arith, append-nil, map}
use Rattle.std.proofs.Common.{inl, inr}
use Rattle.std.specs.Prelude.{is_some, option_and_then, if◌then◌else◌}
use Rattle.std.specs.List.{AllByRecursion}
use Rattle.std.specs.declared.cmp.Ordering.TheVariants.{Less}
use Rattle.std.specs.List.Sorted.{IsStrictlySortedBy}
use Rattle.std.proofs.lemmas.List.{map-append}
use Rattle.frp_base.specs.declared.name.Name.{Name}
use Rattle.frp_base.specs.declared.time.Time.{Time}
use Rattle.frp_base.specs.declared.val.Val.{Val}
use Rattle.frp_base.specs.Time.{time_eq, time_cmp, parent_and_number}
use Rattle.frp_base.specs.Name.{name_eq, birth, maker, declared_name, made_name, name_cmp}
use Rattle.frp_base.proofs.Booleans.{both_true, chosen}
use Rattle.frp_base.proofs.NameLemmas.{made_names_are_born}
use Rattle.frp_graph.specs.declared.prog.Prog.{Prog}
use Rattle.frp_graph.specs.declared.trace.Node.{Node}
use Rattle.frp_graph.specs.declared.trace.Fact.{Fact}
use Rattle.frp_graph.specs.declared.trace.Moment.{Moment}
use Rattle.frp_graph.specs.declared.trace.Sent.{Sent}
use Rattle.frp_graph.specs.Trace.{Sight, or_else, fact_in, node_in, live, moment_at, occ, node_first, value_at, value_from, value_after, pre, occ_above, sight_of}
use Rattle.frp_graph.specs.Births.{Plan, build, file_plans, plans_by, plan_in, plan_as}
use Rattle.frp_graph.specs.FirstValues.{IsBornAs, IsBorn, AreExactly, are_all_born}
use Rattle.frp_graph.specs.Links.{is_new}
use Rattle.frp_graph.specs.Moments.{IsMoment}
use Rattle.frp_graph.specs.Values.{fits_node}
use Rattle.frp_graph.specs.WellFormed.{IsWellFormed, HasFirsts}
use Rattle.frp_graph.proofs.Before.{live_append}
use Rattle.frp_graph.proofs.Lists.{name_same, time_same, time_eq-same}
use Rattle.frp_graph.proofs.Nodes.{found_named, found_holds, found_joined}
use Rattle.frp_graph.proofs.Options.{some_there, some_is, test_some, then_some}
use Rattle.frp_graph.proofs.Values.{streams_have_no_value}
use Rattle.frp_audit.proofs.Ranks.{Distinct}
use Rattle.frp_audit.proofs.Apart.{rising_distinct, distinct_join, found_in}
use Rattle.frp_audit.proofs.Sides.{Extends}
use Rattle.frp_audit.proofs.Plans.{plan_holds, file_named, made_named}
use Rattle.frp_audit.proofs.Makers.{AreMade, AreAllMade}

-- each of these moments is before a time
abbrev pub Earlier : Time → List Moment → Type 0
Earlier t ms = AllByRecursion (λ m. time_cmp m.time t ≡ Less) ms

-- the nodes of some moments, as they are seen at a later time
abbrev pub older : List Moment → Time → Sight
older past t = record { time = t; node = node_in (live past); occ = λ n. None; pre = value_after past; above = occ_above past t }

-- What is known of moments that are past: their graph is well formed, with first values; a node was born at one of their times, and
-- is the file's where it has no maker; and what fired is of its type.
pub record IsPast (prog : Prog) (past : List Moment) : Type 0 where
  pub formed : (t : Time) → IsWellFormed prog (older past t)
  pub firsts : (t : Time) → HasFirsts (older past t)
  pub born : (t : Time) → Earlier t past → (n : Name) (x : Node) → node_in (live past) n ≡ Some x → time_eq (birth n) t ≡ false
  pub nonempty : (n : Name) (x : Node) → node_in (live past) n ≡ Some x → 0 < length n
  pub once : Distinct (map (λ x. x.name) (live past))
  pub of_file : (n : Name) (x : Node) → node_in (live past) n ≡ Some x → maker n ≡ None → (d : Plan) × (plan_in (file_plans prog) n ≡ Some d) × (x.ty ≡ d.ty)
  pub occs : (p : Time) (m : Moment) → moment_at past p ≡ Some m → (n : Name) (v : Val) → occ m n ≡ Some v
      → (x : Node) × (node_in (live past) n ≡ Some x) × (fits_node prog (node_in (live past)) x.ty v ≡ true)

-- Lists.

pub or_none : {A : Type 0} (o : Option A) → or_else o None ≡ o
or_none None = refl
or_none (Some a) = refl

none_or : {A : Type 0} (o p : Option A) → o ≡ None → or_else o p ≡ p
none_or o p e = rw e refl

-- a fact that is found has what each fact has
pub fact_holds : (P : Fact → Type 0) (fs : List Fact) (n : Name) (v : Val) → fact_in fs n ≡ Some v → AllByRecursion P fs → (f : Fact) × (f.node ≡ n) × (f.value ≡ v) × P f
fact_holds P [] n v e h = absurd cc
fact_holds P (f ∷ fs) n v e h = elim (chosen (name_eq f.node n) f.value v (fact_in fs n) e) [
  | inl g ↦ (f, name_same f.node n g.0, g.1, h.0)
  | inr r ↦ fact_holds P fs n v r.1 h.1
]

pub plan_named : (ds : List Plan) (n : Name) (d : Plan) → plan_in ds n ≡ Some d → d.name ≡ n
plan_named [] n d e = absurd cc
plan_named (c ∷ ds) n d e = elim (chosen (name_eq c.name n) c d (plan_in ds n) e) [
  | inl f ↦ ap (λ (c : Plan). c.name) (sym f.1) ∙ name_same c.name n f.0
  | inr r ↦ plan_named ds n d r.1
]

-- a node that no moment has made has no value
no_node : (past : List Moment) (n : Name) → node_in (live past) n ≡ None → AllByRecursion (λ m. option_and_then node_first (node_in m.born n) ≡ None) past
no_node [] n h = tt
no_node (m ∷ ms) n h = by (node_in m.born n) refl (sym (found_joined m.born (live ms) n) ∙ h) (no_node ms n) where
  by : (o : Option Node) → node_in m.born n ≡ o → or_else (node_in m.born n) (node_in (live ms) n) ≡ None
      → (node_in (live ms) n ≡ None → AllByRecursion (λ m. option_and_then node_first (node_in m.born n) ≡ None) ms) → AllByRecursion (λ m. option_and_then node_first (node_in m.born n) ≡ None) (m ∷ ms)
  by None e k more = (rw e refl, more (rw e at k))
  by (Some x) e k more = absurd (let q : ◌≡◌ {A = Option Node} (Some x) None = rw e at k in cc)

-- values after one moment more
pub value_next : (v : Option Val) (past : List Moment) (m : Moment) (c : Name) → value_from v (past ++ m ∷ []) c ≡ value_at (value_from v past c) m c
value_next v [] m c = refl
value_next v (k ∷ ks) m c = value_next (value_at v k c) ks m c

-- a plan's name tells when its node is born
pub plan_birth : (prog : Prog) (w : Sight) (n : Name) (d : Plan) → plan_as prog w n ≡ Some d → (birth n ≡ w.time) × (0 < length n)
plan_birth prog w n d h = by (maker n) refl where
  long : (n : Name) (t : Time) (k : ℕ) → 0 < length (made_name n t k)
  long [] t k = omega arith
  long (s ∷ ss) t k = omega arith

  of_name : (c : Plan) (m : Name) → (k : ℕ) × (c.name ≡ m) → c.name ≡ n → m ≡ n
  of_name c m k e = sym k.1 ∙ e

  by : (o : Option Name) → maker n ≡ o → (birth n ≡ w.time) × (0 < length n)
  by None e =
      let q : (if time_eq w.time build then plan_in (file_plans prog) n else None) ≡ Some d = rw e at h in
      let t = test_some (time_eq w.time build) (plan_in (file_plans prog) n) d q in
      let k = plan_holds (λ c. (k : ℕ) × (c.name ≡ declared_name k)) (file_plans prog) n d t.1 (file_named prog).named in
      let is : declared_name k.0 ≡ n = sym k.1 ∙ plan_named (file_plans prog) n d t.1 in
      let long : 0 < length (declared_name k.0) = omega arith in
      (ap birth (sym is) ∙ sym (time_same w.time build t.0), subst (λ (m : Name). 0 < length m) is long)
  by (Some m) e =
      let q : option_and_then (λ x. plan_in (plans_by prog w x) n) (w.node m) ≡ Some d = rw e at h in
      let z = then_some (λ x. plan_in (plans_by prog w x) n) (w.node m) d q in
      let k = plan_holds (λ c. (k : ℕ) × (c.name ≡ made_name z.0.name w.time k)) (plans_by prog w z.0) n d z.2 (made_named prog w z.0).named in
      let is : made_name z.0.name w.time k.0 ≡ n = sym k.1 ∙ plan_named (plans_by prog w z.0) n d z.2 in
      (ap birth (sym is) ∙ made_names_are_born z.0.name w.time k.0, subst (λ (m : Name). 0 < length m) is (long z.0.name w.time k.0))

-- A moment after these.
module _ (prog : Prog) (past : List Moment) (is_past : IsPast prog past) (m : Moment) (earlier : Earlier m.time past) where
  abbrev w : Sight
  w = sight_of past m

  -- a live node is one of the older ones, or is born now
  pub found : (n : Name) → node_in (live (past ++ m ∷ [])) n ≡ or_else (node_in (live past) n) (node_in m.born n)
  found n =
      ap (λ xs. node_in xs n) (live_append past (m ∷ []) ∙ ap (λ xs. live past ++ xs) (append-nil m.born))
      ∙ found_joined (live past) m.born n

  -- what is born is there
  born_there : (n : Name) (y : Node) → node_in m.born n ≡ Some y → (z : Node) × (w.node n ≡ Some z)
  born_there n y e = by (node_in (live past) n) refl where
    by : (o : Option Node) → node_in (live past) n ≡ o → (z : Node) × (w.node n ≡ Some z)
    by None q = (y, found n ∙ ap (λ o. or_else o (node_in m.born n)) q ∙ e)
    by (Some x) q = (x, found n ∙ ap (λ o. or_else o (node_in m.born n)) q)

  pub all_there : (ds : List Plan) → are_all_born m.born ds ≡ true → AllByRecursion (λ d. (y : Node) × (w.node d.name ≡ Some y)) ds
  all_there [] h = tt
  all_there (d ∷ ds) h =
      let p = both_true _ _ h in
      let y = some_there (node_in m.born d.name) p.0 in
      (born_there d.name y.0 y.1, all_there ds p.1)

  -- what is born has a name of the time
  module _ (planned : AllByRecursion (λ x. (d : Plan) × (plan_as prog w x.name ≡ Some d)) m.born) (only : AllByRecursion (λ f. is_some (w.node f.node) ≡ true) m.fired) where
    born_plan : (n : Name) (x : Node) → node_in m.born n ≡ Some x → (d : Plan) × (plan_as prog w n ≡ Some d)
    born_plan n x e =
        let p = found_holds (λ x. (d : Plan) × (plan_as prog w x.name ≡ Some d)) m.born n x e planned in
        (p.0, ap (plan_as prog w) (sym (found_named m.born n x e)) ∙ p.1)

    born_new : (n : Name) (x : Node) → node_in m.born n ≡ Some x → is_new w n ≡ true
    born_new n x e = let p = born_plan n x e in ap (λ t. time_eq t m.time) (plan_birth prog w n p.0 p.1).0 ∙ time_eq-same m.time

    none_born : (n : Name) → is_new w n ≡ false → node_in m.born n ≡ None
    none_born n e = by (node_in m.born n) refl where
      by : (o : Option Node) → node_in m.born n ≡ o → o ≡ None
      by None q = refl
      by (Some x) q = absurd (let t = born_new n x q in cc)

    none_past : (n : Name) → is_new w n ≡ true → node_in (live past) n ≡ None
    none_past n e = by (node_in (live past) n) refl where
      by : (o : Option Node) → node_in (live past) n ≡ o → o ≡ None
      by None q = refl
      by (Some x) q = absurd (let f = is_past.born m.time earlier n x q in cc)

    pub new_node : (n : Name) → is_new w n ≡ true → w.node n ≡ node_in m.born n
    new_node n e = found n ∙ none_or (node_in (live past) n) (node_in m.born n) (none_past n e)

    pub old_node : (n : Name) → is_new w n ≡ false → w.node n ≡ node_in (live past) n
    old_node n e = found n ∙ ap (or_else (node_in (live past) n)) (none_born n e) ∙ or_none (node_in (live past) n)

    above_none : (n : Name) → is_new w n ≡ true → occ_above past m.time n ≡ None
    above_none n e = by (occ_above past m.time n) refl where
      by : (o : Option Val) → occ_above past m.time n ≡ o → o ≡ None
      by None q = refl
      by (Some v) q =
          let k = then_some (λ k. occ k n) (option_and_then (λ (p : Time × ℕ). moment_at past p.0) (parent_and_number m.time)) v q in
          let p = then_some (λ (p : Time × ℕ). moment_at past p.0) (parent_and_number m.time) k.0 k.1 in
          let x = is_past.occs p.0.0 k.0 p.2 n v k.2 in
          absurd (let none = none_past n e in let both : ◌≡◌ {A = Option Node} (Some x.0) None = sym x.1 ∙ none in cc)

    long : (n : Name) (x : Node) → w.node n ≡ Some x → 0 < length n
    long n x e = by (is_new w n) refl where
      by : (b : Bool) → is_new w n ≡ b → 0 < length n
      by true q = let p = born_plan n x (sym (new_node n q) ∙ e) in (plan_birth prog w n p.0 p.1).1
      by false q = is_past.nonempty n x (sym (old_node n q) ∙ e)

    first_is : (n : Name) → is_new w n ≡ true → pre past m n ≡ option_and_then node_first (w.node n)
    first_is n e =
        ap (or_else (option_and_then node_first (node_in m.born n))) (streams_have_no_value past n (no_node past n (none_past n e)))
        ∙ or_none (option_and_then node_first (node_in m.born n)) ∙ ap (option_and_then node_first) (sym (new_node n e))

    fired_live : (n : Name) (v : Val) → occ m n ≡ Some v → (x : Node) × (w.node n ≡ Some x)
    fired_live n v e =
        let f = fact_holds (λ f. is_some (w.node f.node) ≡ true) m.fired n v e only in
        let x = some_there (w.node f.0.node) f.3 in
        (x.0, ap w.node (sym f.1) ∙ x.1)

    -- no name is of two nodes
    pub once_grown : IsStrictlySortedBy name_cmp (map (λ x. x.name) m.born) → Distinct (map (λ x. x.name) (live (past ++ m ∷ [])))
    once_grown rise =
        let parts : live (past ++ m ∷ []) ≡ live past ++ m.born = live_append past (m ∷ []) ∙ ap (λ xs. live past ++ xs) (append-nil m.born) in
        let joined : Distinct (map (λ (x : Node). x.name) (live past) ++ map (λ (x : Node). x.name) m.born)
        = distinct_join (map (λ x. x.name) (live past)) (map (λ x. x.name) m.born) is_past.once (rising_distinct (map (λ x. x.name) m.born) rise) (λ n a b.
        let x = found_in (live past) n a in
        let y = found_in m.born n b in
        let older = is_past.born m.time earlier n x.0 x.1 in
        let new = born_new n y.0 y.1 in
        cc) in
        subst (λ (xs : List Node). Distinct (map (λ x. x.name) xs)) (sym parts)
        (subst Distinct (sym (map-append (λ (x : Node). x.name) (live past) m.born)) joined)

    pub extends : Extends (older past m.time) w
    extends = record {
      time = refl;
      named = λ n x e. found_named (live (past ++ m ∷ [])) n x e;
      nonempty = long;
      older = old_node;
      older_pre = λ n e. ap (λ o. or_else (option_and_then node_first o) (value_after past n)) (none_born n e);
      none_older = none_past;
      none_above = above_none;
      first = first_is;
      above = λ n. refl;
      only_live = fired_live;
    }

  -- Where the moment is one that the program has.
  module _ (sends : List Sent) (happens : IsMoment prog sends past m) where
    exactly : AreExactly prog w m.born
    exactly = happens.born_exactly

    planned_as : (o : Option Plan) (x : Node) → IsBornAs prog w o x → (d : Plan) × (o ≡ Some d) × IsBorn prog w d x
    planned_as None x h = absurd h
    planned_as (Some d) x h = (d, refl, h)

    all_planned : (xs : List Node) → AllByRecursion (λ x. IsBornAs prog w (plan_as prog w x.name) x) xs → AllByRecursion (λ x. (d : Plan) × (plan_as prog w x.name ≡ Some d)) xs
    all_planned [] h = tt
    all_planned (x ∷ xs) h = (let p = planned_as (plan_as prog w x.name) x h.0 in (p.0, p.1), all_planned xs h.1)

    planned : AllByRecursion (λ x. (d : Plan) × (plan_as prog w x.name ≡ Some d)) m.born
    planned = all_planned m.born exactly.each_is_made

    pub moment_extends : Extends (older past m.time) w
    moment_extends = extends planned happens.facts_of_live

    pub moment_once : Distinct (map (λ x. x.name) (live (past ++ m ∷ [])))
    moment_once = once_grown planned happens.facts_of_live happens.born_rise

    pub born_as : (n : Name) (x : Node) → node_in m.born n ≡ Some x → (d : Plan) × (plan_as prog w n ≡ Some d) × IsBorn prog w d x
    born_as n x e =
        let h = found_holds (λ x. IsBornAs prog w (plan_as prog w x.name) x) m.born n x e exactly.each_is_made in
        let p = planned_as (plan_as prog w x.name) x h in
        (p.0, ap (plan_as prog w) (sym (found_named m.born n x e)) ∙ p.1, p.2)

    pub is_born_now : (n : Name) (x : Node) → w.node n ≡ Some x → is_new w n ≡ true → node_in m.born n ≡ Some x
    is_born_now n x e q = sym (new_node planned happens.facts_of_live n q) ∙ e

    pub same_node_new : (n : Name) → is_new w n ≡ true → w.node n ≡ node_in m.born n
    same_node_new = new_node planned happens.facts_of_live

    pub same_node_old : (n : Name) → is_new w n ≡ false → w.node n ≡ node_in (live past) n
    same_node_old = old_node planned happens.facts_of_live

    pub none_born_old : (n : Name) → is_new w n ≡ false → node_in m.born n ≡ None
    none_born_old = none_born planned happens.facts_of_live

    pub moment_made : AreMade prog w
    moment_made = record {
      plan = λ n x e q.
          let b = born_as n x (is_born_now n x e q) in
          (b.0, b.1, b.2.made, λ v g. sym b.2.first ∙ g);
      file = λ e. all_there (file_plans prog) (exactly.file_is_born e);
    }

    -- what is planned is born
    planned_born : (n : Name) (d : Plan) (ds : List Plan) → plan_in ds n ≡ Some d → are_all_born m.born ds ≡ true → (y : Node) × (node_in m.born n ≡ Some y)
    planned_born n d [] e h = absurd cc
    planned_born n d (c ∷ ds) e h =
        let p = both_true _ _ h in
        elim (chosen (name_eq c.name n) c d (plan_in ds n) e) [
          | inl f ↦ (let y = some_there (node_in m.born c.name) p.0 in (y.0, ap (node_in m.born) (sym (name_same c.name n f.0)) ∙ y.1))
          | inr r ↦ planned_born n d ds r.1 p.1
        ]

    plan_born : (n : Name) (d : Plan) → plan_as prog w n ≡ Some d → (y : Node) × (node_in m.born n ≡ Some y)
    plan_born n d h = by (maker n) refl where
      by : (o : Option Name) → maker n ≡ o → (y : Node) × (node_in m.born n ≡ Some y)
      by None e =
          let q : (if time_eq w.time build then plan_in (file_plans prog) n else None) ≡ Some d = rw e at h in
          let t = test_some (time_eq w.time build) (plan_in (file_plans prog) n) d q in
          planned_born n d (file_plans prog) t.1 (exactly.file_is_born (time_same w.time build t.0))
      by (Some k) e =
          let q : option_and_then (λ x. plan_in (plans_by prog w x) n) (w.node k) ≡ Some d = rw e at h in
          let z = then_some (λ x. plan_in (plans_by prog w x) n) (w.node k) d q in
          planned_born n d (plans_by prog w z.0) z.2 (exactly.each_is_born k z.0 z.1)

    pub moment_whole : AreAllMade prog w
    moment_whole = record {
      whole = λ n d h.
          let y = plan_born n d h in
          let b = born_as n y.0 y.1 in
          let same : b.0 ≡ d = some_is d b.0 (sym h ∙ b.1) in
          let new = born_new planned happens.facts_of_live n y.0 y.1 in
          (y.0, same_node_new n new ∙ y.1, subst (λ (d : Plan). IsBorn prog w d y.0) same b.2);
    }
