-- Past moments with one more, which the program has after them.
use Rattle.std.proofs.Common.{◌≡◌, ◌⊎◌, ℕ, Bool, true, false, List, [], ◌∷◌, ◌++◌, Option, Some, None, refl, sym, ap, ◌∙◌, subst}
use Rattle.std.proofs.Common.{inl, inr}
use Rattle.std.specs.Prelude.{is_some, option_map, option_and_then, if◌then◌else◌}
use Rattle.std.specs.declared.cmp.Ordering.TheVariants.{Less, Equal}
use Rattle.frp_base.specs.declared.name.Name.{Name}
use Rattle.frp_base.specs.declared.time.Time.{Time}
use Rattle.frp_base.specs.declared.val.Val.{Val}
use Rattle.frp_base.specs.Time.{time_eq, time_cmp, parent_and_number}
use Rattle.frp_base.specs.Name.{birth, maker}
use Rattle.frp_base.proofs.Booleans.{both_true, true_both, is_false}
use Rattle.frp_base.proofs.Lists.{all_front, all_back}
use Rattle.frp_graph.specs.declared.prog.Prog.{Prog}
use Rattle.frp_graph.specs.declared.trace.Node.{Node}
use Rattle.frp_graph.specs.declared.trace.Moment.{Moment}
use Rattle.frp_graph.specs.declared.trace.Sent.{Sent}
use Rattle.frp_graph.specs.Trace.{Sight, or_else, node_in, live, moment_at, occ, stepped, sight_of}
use Rattle.frp_graph.specs.Births.{Plan, build, file_plans, plan_in}
use Rattle.frp_graph.specs.Links.{is_new}
use Rattle.frp_graph.specs.Moments.{IsMoment}
use Rattle.frp_graph.specs.Sends.{sent_in}
use Rattle.frp_graph.specs.Sound.{IsSoundAfter}
use Rattle.frp_graph.specs.TypedProg.{IsTypedProg}
use Rattle.frp_graph.specs.Values.{type_among, fits_node}
use Rattle.frp_graph.specs.WellFormed.{IsWellFormed, HasFirsts}
use Rattle.frp_graph.specs.ShapeLaws.{Stays}
use Rattle.frp_graph.proofs.Allowed.{allowed_stays}
use Rattle.frp_graph.proofs.Lists.{time_same}
use Rattle.frp_graph.proofs.Options.{test_some, then_some, mapped_some}
use Rattle.frp_graph.proofs.Order.{time_cmp-same}
use Rattle.frp_graph.proofs.TypedSights.{Fits, FitsCell, fits_some, cell_some, some_fits, some_cell}
use Rattle.frp_audit.proofs.Seen.{fits_more}
use Rattle.frp_audit.proofs.Sides.{Extends}
use Rattle.frp_audit.proofs.Pasts.{Earlier, older, IsPast, value_next, found, moment_extends, moment_once, moment_made, same_node_old}
use Rattle.frp_audit.proofs.Settled.{firsts_there, well_formed}

-- a value after a step is the step, or the value before it
stepped_parts : (p o : Option Val) (v : Val) → stepped p o ≡ Some v → (y : Val) × (p ≡ Some y) × ((o ≡ Some v) ⊎ (p ≡ Some v))
stepped_parts None o v h = absurd cc
stepped_parts (Some y) None v h = (y, refl, inr h)
stepped_parts (Some y) (Some s) v h = (y, refl, inl h)

stepped_there : (p o : Option Val) → is_some p ≡ true → is_some (stepped p o) ≡ true
stepped_there None o h = absurd cc
stepped_there (Some y) None h = refl
stepped_there (Some y) (Some s) h = refl

at_joined : (ms : List Moment) (m : Moment) (t : Time) → moment_at (ms ++ m ∷ []) t ≡ or_else (moment_at ms t) (moment_at (m ∷ []) t)
at_joined [] m t = refl
at_joined (k ∷ ks) m t = by (time_eq k.time t) (at_joined ks m t) where
  by : (b : Bool) → moment_at (ks ++ m ∷ []) t ≡ or_else (moment_at ks t) (moment_at (m ∷ []) t)
      → (if b then Some k else moment_at (ks ++ m ∷ []) t) ≡ or_else (if b then Some k else moment_at ks t) (moment_at (m ∷ []) t)
  by true h = refl
  by false h = h

-- no moment is past
pub none_past : (prog : Prog) → IsTypedProg prog → IsPast prog []
none_past prog typed = record {
  formed = λ t. record {
    program = typed;
    shapes = λ n x e. absurd cc;
    named = λ n x e. absurd cc;
    firsts = λ n x e. absurd cc;
    befores = λ n x e. absurd cc;
    occurrences = λ n x e. absurd cc;
    aboves = λ n x e. absurd cc;
    only_live = λ n v e. absurd cc;
  };
  firsts = λ t. record { first = λ n x e. absurd cc; before = λ n x e. absurd cc };
  born = λ t h n x e. absurd cc;
  nonempty = λ n x e. absurd cc;
  once = tt;
  of_file = λ n x e. absurd cc;
  occs = λ p m e. absurd cc;
}

module _ (prog : Prog) (typed : IsTypedProg prog) (sends : List Sent) (past : List Moment) (is_past : IsPast prog past) (m : Moment) (earlier : Earlier m.time past)
    (happens : IsMoment prog sends past m) (sound : IsSoundAfter prog past m)
    (sent : (n : Name) (v : Val) → sent_in prog sends m.time n ≡ Some v → (x : Node) × ((older past m.time).node n ≡ Some x) × Fits prog (older past m.time) x.ty v) where
  abbrev w : Sight
  w = sight_of past m

  abbrev grown : List Moment
  grown = past ++ m ∷ []

  ew : Extends (older past m.time) w
  ew = moment_extends prog past is_past m earlier sends happens

  formed : IsWellFormed prog w
  formed = well_formed prog typed sends past is_past m earlier happens sound sent

  firsts : HasFirsts w
  firsts = firsts_there prog typed sends past is_past m earlier happens sound

  -- An older node is there as it was.
  still_there : (n : Name) (x : Node) → node_in (live past) n ≡ Some x → w.node n ≡ Some x
  still_there n x e = found prog past is_past m earlier n ∙ ap (λ o. or_else o (node_in m.born n)) e

  types_stay : Stays (type_among (older past m.time).node) (type_among w.node)
  types_stay n a e = let x = mapped_some (λ (z : Node). z.ty) (node_in (live past) n) a e in ap (option_map (λ (z : Node). z.ty)) (still_there n x.0 x.1) ∙ ap Some x.2

  -- What has fired.

  fired_now : (n : Name) (v : Val) → occ m n ≡ Some v → (x : Node) × (node_in (live grown) n ≡ Some x) × (fits_node prog (node_in (live grown)) x.ty v ≡ true)
  fired_now n v e =
      let x = ew.only_live n v e in
      let here : w.occ x.0.name ≡ Some v = ap w.occ (ew.named n x.0 x.1) ∙ e in
      (x.0, x.1, fits_some prog w x.0 (w.occ x.0.name) (formed.occurrences n x.0 x.1) v here)

  fired_past : (p : Time) (k : Moment) → moment_at past p ≡ Some k → (n : Name) (v : Val) → occ k n ≡ Some v
      → (x : Node) × (node_in (live grown) n ≡ Some x) × (fits_node prog (node_in (live grown)) x.ty v ≡ true)
  fired_past p k at n v e =
      let x = is_past.occs p k at n v e in
      (x.0, still_there n x.0 x.1, fits_more prog (older past m.time) w types_stay x.0.ty v x.2)

  fired : (p : Time) (k : Moment) → moment_at grown p ≡ Some k → (n : Name) (v : Val) → occ k n ≡ Some v
      → (x : Node) × (node_in (live grown) n ≡ Some x) × (fits_node prog (node_in (live grown)) x.ty v ≡ true)
  fired p k at n v e = by (moment_at past p) refl (sym (at_joined past m p) ∙ at) where
    by : (o : Option Moment) → moment_at past p ≡ o → or_else (moment_at past p) (moment_at (m ∷ []) p) ≡ Some k
        → (x : Node) × (node_in (live grown) n ≡ Some x) × (fits_node prog (node_in (live grown)) x.ty v ≡ true)
    by (Some j) q h =
        let there : ◌≡◌ {A = Option Moment} (Some j) (Some k) = rw q at h in
        fired_past p k (q ∙ there) n v e
    by None q h =
        let there : moment_at (m ∷ []) p ≡ Some k = rw q at h in
        let last = test_some (time_eq m.time p) (Some m) k there in
        let same : m ≡ k = cc in
        fired_now n v (ap (λ (j : Moment). occ j n) same ∙ e)

  -- The graph as it is seen later.

  module _ (t : Time) where
    abbrev later : Sight
    later = older grown t

    pre_later : (n : Name) (v : Val) → later.pre n ≡ Some v → stepped (w.pre n) (w.occ n) ≡ Some v
    pre_later n v e = sym (value_next None past m n) ∙ e

    before_fits : (n : Name) (x : Node) → w.node n ≡ Some x → (v : Val) → later.pre x.name ≡ Some v → FitsCell prog later x.ty v
    before_fits n x e v p =
        let s = stepped_parts (w.pre x.name) (w.occ x.name) v (pre_later x.name v p) in
        let cell = (both_true _ _ (cell_some prog w x (w.pre x.name) (formed.befores n x e) s.0 s.1)).0 in
        elim s.2 [
          | inl o ↦ true_both _ _ cell (fits_some prog w x (w.occ x.name) (formed.occurrences n x e) v o)
          | inr q ↦ cell_some prog w x (w.pre x.name) (formed.befores n x e) v q
        ]

    above_fits : (n : Name) (x : Node) → w.node n ≡ Some x → (v : Val) → later.above x.name ≡ Some v → Fits prog later x.ty v
    above_fits n x e v p =
        let k = then_some (λ k. occ k x.name) (option_and_then (λ (q : Time × ℕ). moment_at grown q.0) (parent_and_number t)) v p in
        let q = then_some (λ (q : Time × ℕ). moment_at grown q.0) (parent_and_number t) k.0 k.1 in
        let y = fired q.0.0 k.0 q.2 x.name v k.2 in
        let both : ◌≡◌ {A = Option Node} (Some y.0) (Some x) = sym y.1 ∙ ap w.node (ew.named n x e) ∙ e in
        let same : y.0 ≡ x = cc in
        subst (λ (z : Node). Fits prog later z.ty v) same y.2

    formed_later : IsWellFormed prog later
    formed_later = record {
      program = typed;
      shapes = λ n x e. allowed_stays prog w later (λ n a h. h) x.ty x.shape (formed.shapes n x e);
      named = ew.named;
      firsts = λ n x e. some_cell prog later x x.first (cell_some prog w x x.first (formed.firsts n x e));
      befores = λ n x e. some_cell prog later x (later.pre x.name) (before_fits n x e);
      occurrences = λ n x e. refl;
      aboves = λ n x e. some_fits prog later x (later.above x.name) (above_fits n x e);
      only_live = λ n v e. absurd cc;
    }

    firsts_later : HasFirsts later
    firsts_later = record {
      first = firsts.first;
      before = λ n x e c. ap is_some (value_next None past m x.name) ∙ stepped_there (w.pre x.name) (w.occ x.name) (firsts.before n x e c);
    }

    born_before : Earlier t grown → (n : Name) (x : Node) → node_in (live grown) n ≡ Some x → time_eq (birth n) t ≡ false
    born_before h n x e = by (is_new w n) refl where
      last : time_cmp m.time t ≡ Less
      last = (all_back (λ k. time_cmp k.time t ≡ Less) past (m ∷ []) h).0

      by : (b : Bool) → is_new w n ≡ b → time_eq (birth n) t ≡ false
      by true new =
          is_false (time_eq (birth n) t) (λ s.
          let same : m.time ≡ t = sym (time_same (birth n) m.time new) ∙ time_same (birth n) t s in
          let less : time_cmp t t ≡ Less = subst (λ k. time_cmp k t ≡ Less) same last in
          let equal : time_cmp t t ≡ Equal = time_cmp-same t in
          cc)
      by false o = is_past.born t (all_front (λ k. time_cmp k.time t ≡ Less) past (m ∷ []) h) n x (sym (same_node_old prog past is_past m earlier sends happens n o) ∙ e)

  file_node : (n : Name) (x : Node) → node_in (live grown) n ≡ Some x → maker n ≡ None → (d : Plan) × (plan_in (file_plans prog) n ≡ Some d) × (x.ty ≡ d.ty)
  file_node n x e none = by (is_new w n) refl where
    by : (b : Bool) → is_new w n ≡ b → (d : Plan) × (plan_in (file_plans prog) n ≡ Some d) × (x.ty ≡ d.ty)
    by true new =
        let p = (moment_made prog past is_past m earlier sends happens).plan n x e new in
        let q : (if time_eq w.time build then plan_in (file_plans prog) n else None) ≡ Some p.0 = rw none at p.1 in
        (p.0, (test_some (time_eq w.time build) (plan_in (file_plans prog) n) p.0 q).1, p.2.ty)
    by false o = is_past.of_file n x (sym (same_node_old prog past is_past m earlier sends happens n o) ∙ e) none

  pub one_more : IsPast prog grown
  one_more = record {
    formed = formed_later;
    firsts = firsts_later;
    born = born_before;
    nonempty = ew.nonempty;
    once = moment_once prog past is_past m earlier sends happens;
    of_file = file_node;
    occs = fired;
  }
