-- Nodes that are made: by an execute of whose instance both sights have the same, or by the file.
use Rattle.std.proofs.Common.{◌≡◌, ℕ, ◌<◌, Bool, true, false, List, [], ◌∷◌, length, Option, Some, None, refl, sym, ap, ◌∙◌, subst}
use Rattle.std.specs.Prelude.{◌&&◌, slice_get}
use Rattle.std.specs.List.{AllByRecursion}
use Rattle.frp_base.specs.declared.name.Name.{Name}
use Rattle.frp_base.specs.declared.ty.Ty.{Ty}
use Rattle.frp_base.specs.declared.ty.Ty.TheVariants as t
use Rattle.frp_base.specs.declared.val.Val.{Val}
use Rattle.frp_base.specs.Time.{time_eq}
use Rattle.frp_base.specs.Name.{birth, maker, made_name, declared_name}
use Rattle.frp_base.proofs.Booleans.{both_true}
use Rattle.frp_base.proofs.NameLemmas.{made_names_have_makers, made_names_are_born}
use Rattle.frp_expr.proofs.ValuesStay.{stays}
use Rattle.frp_graph.specs.declared.prog.Prog.{Prog}
use Rattle.frp_graph.specs.declared.trace.Node.{Node}
use Rattle.frp_graph.specs.declared.trace.Sent.{Sent}
use Rattle.frp_graph.specs.declared.shape.Shape.{Shape}
use Rattle.frp_graph.specs.declared.shape.Shape.TheVariants.{Execute}
use Rattle.frp_graph.specs.Trace.{Sight}
use Rattle.frp_graph.specs.Roles.{Execution, execution}
use Rattle.frp_graph.specs.Births.{Plan, Instance, build, file_plans, instance_in, plans_of, plans_by, plan_in, plan_as}
use Rattle.frp_graph.specs.FirstValues.{first_value, IsMade, IsBorn}
use Rattle.frp_graph.specs.Links.{is_new}
use Rattle.frp_graph.specs.TypedProg.{IsTypedProg, Pattern, sigs, patterns}
use Rattle.frp_graph.specs.Values.{type_among, are_values}
use Rattle.frp_graph.specs.WellFormed.{Allows}
use Rattle.frp_graph.specs.ShapeLaws.{Stays}
use Rattle.frp_graph.proofs.Instances.{instances_stay}
use Rattle.frp_graph.proofs.Lists.{time_eq-same}
use Rattle.frp_graph.proofs.Options.{some_is}
use Rattle.frp_graph.proofs.TypedValues.{are_stay}
use Rattle.frp_graph.proofs.TypedSights.{stream_occ, cell_before}
use Rattle.frp_graph.proofs.TypedBodies.{IsLive, IsAllowed, AreBefores, instance_allowed, file_allowed}
use Rattle.frp_audit.proofs.Seen.{Within, seen, type_shown, type_seen, pre_seen, types_more, shown_allowed}
use Rattle.frp_audit.proofs.Sides.{Extends, holds, Agrees}
use Rattle.frp_audit.proofs.Plans.{AreNamed, plan_holds, file_named, executed, made_named}
use Rattle.frp_audit.proofs.Firsts.{IsPlanned, making}

-- an execute is one of a template, with kept values of its types
record IsCall (prog : Prog) (w : Sight) (e : Execution) : Type 0 where
  pattern : Pattern
  is_pattern : slice_get (patterns prog) e.template ≡ Some pattern
  source : type_among w.node e.source ≡ Some (t.Stream pattern.param)
  kept : are_values prog w.node e.kept pattern.kept ≡ true

calls : (prog : Prog) (w : Sight) (x : Ty) (s : Shape) (e : Execution) → execution s ≡ Some e → Allows prog w x s → IsCall prog w e
calls prog w x (Execute a template kept) e h allowed =
    let of : Execution = record { source = a; template = template; kept = kept } in
    let same : of ≡ e = cc in
    subst (IsCall prog w) same (record { pattern = allowed.0; is_pattern = allowed.1; source = allowed.2; kept = allowed.3 })
calls prog w x _ e h allowed = absurd cc

-- What is born in the one sight: each node by a plan, with its first value where it has one; and in the other all that is planned.
pub record AreMade (prog : Prog) (w : Sight) : Type 0 where
  pub plan : (n : Name) (x : Node) → w.node n ≡ Some x → is_new w n ≡ true
      → (d : Plan) × (plan_as prog w n ≡ Some d) × IsMade d x × ((v : Val) → x.first ≡ Some v → first_value prog w d.given d.shape ≡ Some v)
  pub file : w.time ≡ build → AllByRecursion (λ d. (y : Node) × (w.node d.name ≡ Some y)) (file_plans prog)

pub record AreAllMade (prog : Prog) (u : Sight) : Type 0 where
  pub whole : (n : Name) (d : Plan) → plan_as prog u n ≡ Some d → (y : Node) × (u.node n ≡ Some y) × IsBorn prog u d y

module _ (prog : Prog) (w : Sight) (named : (n : Name) (x : Node) → w.node n ≡ Some x → x.name ≡ n) (made : AreMade prog w) where
  -- how a plan's name tells its maker
  pub planned_by : (e : Name) (z : Node) (n : Name) → w.node e ≡ Some z → maker n ≡ Some e → plan_as prog w n ≡ plan_in (plans_by prog w z) n
  planned_by e z n live m = rw (m, live) refl

  pub planned_by_file : (n : Name) → maker n ≡ None → w.time ≡ build → plan_as prog w n ≡ plan_in (file_plans prog) n
  planned_by_file n m e = let t : time_eq w.time build ≡ true = subst (λ s. time_eq s build ≡ true) (sym e) (time_eq-same build) in rw (m, t) refl

  -- a node that is there of a plan's name is of the plan's type
  type_planned : (d : Plan) (y : Node) → w.node d.name ≡ Some y → is_new w d.name ≡ true → plan_as prog w d.name ≡ Some d → y.ty ≡ d.ty
  type_planned d y live new p =
      let q = made.plan d.name y live new in
      let same : q.0 ≡ d = some_is d q.0 (sym p ∙ q.1) in
      q.2.ty ∙ ap (λ (c : Plan). c.ty) same

  pub record IsFound (d : Plan) : Type 0 where
    pub node : Node
    pub found : w.node d.name ≡ Some node
    pub ty : node.ty ≡ d.ty

  module _ (name : ℕ → Name) (ds : List Plan) (all : AreNamed name ds)
      (new : (k : ℕ) → is_new w (name k) ≡ true) (plan_is : (k : ℕ) → plan_as prog w (name k) ≡ plan_in ds (name k)) where
    found_each : (cs : List Plan) → AllByRecursion (λ d. plan_in ds d.name ≡ Some d) cs → AllByRecursion (λ d. (k : ℕ) × (d.name ≡ name k)) cs
        → AllByRecursion (λ d. (y : Node) × (w.node d.name ≡ Some y)) cs → AllByRecursion IsFound cs
    found_each [] f m l = tt
    found_each (c ∷ cs) f m l = (
      record {
        node = l.0.0;
        found = l.0.1;
        ty = type_planned c l.0.0 l.0.1 (ap (is_new w) m.0.1 ∙ new m.0.0) (ap (plan_as prog w) m.0.1 ∙ plan_is m.0.0 ∙ ap (plan_in ds) (sym m.0.1) ∙ f.0);
      },
      found_each cs f.1 m.1 l.1,
    )

    pub plans_found : AllByRecursion (λ d. (y : Node) × (w.node d.name ≡ Some y)) ds → AllByRecursion IsFound ds
    plans_found l = found_each ds all.found all.named l

  -- the nodes of an instance, and those of the file
  pub instance_found : (e : Name) (z : Node) → w.node e ≡ Some z → 0 < length e → AllByRecursion (λ d. (y : Node) × (w.node d.name ≡ Some y)) (plans_by prog w z) → AllByRecursion IsFound (plans_by prog w z)
  instance_found e z live long l =
      let name : z.name ≡ e = named e z live in
      plans_found (made_name z.name w.time) (plans_by prog w z) (made_named prog w z)
      (λ k. ap (λ t. time_eq t w.time) (made_names_are_born z.name w.time k) ∙ time_eq-same w.time)
      (λ k. planned_by e z (made_name z.name w.time k) live (made_names_have_makers z.name w.time k (subst (λ (n : Name). 0 < length n) (sym name) long) ∙ ap Some name))
      l

  pub file_found : w.time ≡ build → AllByRecursion IsFound (file_plans prog)
  file_found e =
      plans_found declared_name (file_plans prog) (file_named prog)
      (λ k. ap (time_eq (birth (declared_name k))) e ∙ time_eq-same build)
      (λ k. planned_by_file (declared_name k) refl e)
      (made.file e)

module _ (prog : Prog) (typed : IsTypedProg prog) (sends : List Sent) (old w u : Sight) (ew : Extends old w) (eu : Extends old u) (made : AreMade prog w) (whole : AreAllMade prog u)
    (few many fired : Name → Bool) (within : Within few many) (olds : (n : Name) → is_new w n ≡ false → few n ≡ true) (agrees : Agrees prog w u few fired) where
  abbrev now : Sight
  now = seen w few (holds w) fired

  abbrev next : Sight
  next = making prog typed old w u ew eu few many fired within olds agrees

  abbrev Planned : Name → Node → Type 0
  Planned = IsPlanned prog typed old w u ew eu few many fired within olds agrees

  to_next : Stays (type_among now.node) (type_among next.node)
  to_next = types_more w few many (holds w) (λ n. holds w n && few n) fired fired within

  live_next : (ds : List Plan) → AllByRecursion (IsFound prog w ew.named made) ds → AllByRecursion (λ d. many d.name ≡ true) ds → AllByRecursion (IsLive prog next) ds
  live_next [] f m = tt
  live_next (d ∷ ds) f m = (type_seen w many (λ n. holds w n && few n) fired d.name f.0.node m.0 f.0.found ∙ ap Some f.0.ty, live_next ds f.1 m.1)

  -- A node that is made by a plan that is allowed.
  planned : (n : Name) (x : Node) (ds : List Plan) → w.node n ≡ Some x → is_new w n ≡ true → plan_as prog w n ≡ plan_in ds n → plan_as prog u n ≡ plan_in ds n → AllByRecursion (IsAllowed prog next) ds → Planned n x
  planned n x ds live new own other allowed =
      let p = made.plan n x live new in
      let here : plan_in ds n ≡ Some p.0 = sym own ∙ p.1 in
      let y = whole.whole n p.0 (other ∙ here) in
      record { plan = p.0; made = p.2; allowed = plan_holds (IsAllowed prog next) ds n p.0 here allowed; first = p.3; node = y.0; found = y.1; born = y.2 }

  -- By an execute.
  module _ (e : Name) (z : Node) (live : w.node e ≡ Some z) (is_shown : few e ≡ true) (own : instance_in prog w z.name z.shape ≡ instance_in prog now z.name z.shape)
      (other : instance_in prog u z.name z.shape ≡ instance_in prog now z.name z.shape)
      (there : AllByRecursion (λ d. (y : Node) × (w.node d.name ≡ Some y)) (plans_by prog w z))
      (shown : (k : ℕ) → many (made_name z.name w.time k) ≡ true) where
    z_name : z.name ≡ e
    z_name = ew.named e z live

    each_shown : (ds : List Plan) → AllByRecursion (λ d. (k : ℕ) × (d.name ≡ made_name z.name w.time k)) ds → AllByRecursion (λ d. many d.name ≡ true) ds
    each_shown [] h = tt
    each_shown (d ∷ ds) h = (ap many h.0.1 ∙ shown h.0.0, each_shown ds h.1)

    plans_live : AllByRecursion (IsLive prog next) (plans_by prog w z)
    plans_live =
        live_next (plans_by prog w z) (instance_found prog w ew.named made e z live (ew.nonempty e z live) there)
        (each_shown (plans_by prog w z) (made_named prog w z).named)

    befores : AreBefores prog next next.pre
    befores m a v h p =
        let q = pre_seen w many (λ n. holds w n && few n) fired m v p in
        let k = both_true (holds w m) (few m) (both_true (many m) (holds w m && few m) q.0).1 in
        let f = k.1 in
        let held = k.0 in
        let y = type_shown w many (λ n. holds w n && few n) fired m (t.Cell a) h in
        let here : type_among now.node m ≡ Some (t.Cell a) = type_seen w few (holds w) fired m y.1 f y.2 ∙ ap Some y.3 in
        let before : now.pre m ≡ Some v = rw (f, held) q.1 in
        stays (type_among now.node) (type_among next.node) (sigs prog) to_next v a (cell_before prog now agrees.formed m a v here before)

    pres : Stays now.pre next.pre
    pres m v p =
        let q = pre_seen w few (holds w) fired m v p in
        let k = both_true (few m) (holds w m) q.0 in
        rw (within m k.0, k.0, k.1) q.1

    plans_allowed : AllByRecursion (IsAllowed prog next) (plans_by prog w z)
    plans_allowed = by (instance_in prog now z.name z.shape) refl where
      by : (o : Option Instance) → instance_in prog now z.name z.shape ≡ o → AllByRecursion (IsAllowed prog next) (plans_by prog w z)
      by None q = subst (λ (o : Option Instance). AllByRecursion (IsAllowed prog next) (plans_of o)) (sym (own ∙ q)) tt
      by (Some i) q =
          let m = executed prog now z.name z.shape i q in
          let c = calls prog now z.ty z.shape m.call m.executes (shown_allowed prog w few (holds w) fired e z agrees.formed is_shown live) in
          let first = stays (type_among now.node) (type_among next.node) (sigs prog) to_next m.value c.pattern.param (stream_occ prog now agrees.formed m.call.source c.pattern.param m.value c.source m.fires) in
          let rest = are_stay (sigs prog) (type_among now.node) (type_among next.node) to_next m.call.kept c.pattern.kept c.kept in
          let there = instances_stay prog now next z.name m.call.template m.call.kept m.value i refl pres m.makes in
          let live = subst (λ (o : Option Instance). AllByRecursion (IsLive prog next) (plans_of o)) (own ∙ q) plans_live in
          subst (λ (o : Option Instance). AllByRecursion (IsAllowed prog next) (plans_of o)) (sym (own ∙ q))
          (instance_allowed prog next typed befores z.name m.call.template m.call.kept m.value c.pattern i c.is_pattern first rest there live)

    pub executed_planned : (n : Name) (x : Node) → w.node n ≡ Some x → is_new w n ≡ true → maker n ≡ Some e → Planned n x
    executed_planned n x here new m =
        let s = agrees.same e z is_shown live in
        let same : plans_by prog u s.node ≡ plans_by prog w z
        = ap plans_of (ap (λ (k : Name). instance_in prog u k s.node.shape) s.name ∙ ap (instance_in prog u z.name) s.shape ∙ other ∙ sym own) in
        let theirs : plan_as prog u n ≡ plan_in (plans_by prog u s.node) n = rw (m, s.found) refl in
        planned n x (plans_by prog w z) here new (planned_by prog w ew.named made e z n live m) (theirs ∙ ap (λ ds. plan_in ds n) same) plans_allowed

  -- By the file.
  module _ (shown : (k : ℕ) → many (declared_name k) ≡ true) where
    all_shown : (ds : List Plan) → AllByRecursion (λ d. (k : ℕ) × (d.name ≡ declared_name k)) ds → AllByRecursion (λ d. many d.name ≡ true) ds
    all_shown [] h = tt
    all_shown (d ∷ ds) h = (ap many h.0.1 ∙ shown h.0.0, all_shown ds h.1)

    pub file_planned : (n : Name) (x : Node) → w.node n ≡ Some x → is_new w n ≡ true → maker n ≡ None → w.time ≡ build → Planned n x
    file_planned n x live new m e =
        let there : AllByRecursion (IsLive prog next) (file_plans prog) = live_next (file_plans prog) (file_found prog w ew.named made e) (all_shown (file_plans prog) (file_named prog).named) in
        planned n x (file_plans prog) live new (planned_by_file prog w ew.named made n m e) (other_file (eu.time ∙ sym ew.time ∙ e)) (file_allowed prog next typed there)
      where
        other_file : u.time ≡ build → plan_as prog u n ≡ plan_in (file_plans prog) n
        other_file e = let t : time_eq u.time build ≡ true = subst (λ s. time_eq s build ≡ true) (sym e) (time_eq-same build) in rw (m, t) refl
