-- A moment that the program has, with values of their types and no closed chain: what agreeing asks of its sight, and that it is
-- well formed.
use Rattle.std.proofs.Common.{◌≡◌, ℕ, suc, ◌<◌, Bool, true, false, List, [], ◌∷◌, ◌++◌, map, length, Option, Some, None, refl, sym, ap, ◌∙◌, arith}
use Rattle.std.proofs.Common.{inl, inr}
use Rattle.std.specs.Prelude.{not, ◌||◌, nat_lt, is_some, option_map, option_and_then}
use Rattle.std.specs.List.{AllByRecursion, list_any}
use Rattle.std.proofs.lemmas.Bool.Decides.{nat_tests}
use Rattle.frp_base.specs.declared.name.Name.{Name}
use Rattle.frp_base.specs.declared.val.Val.{Val}
use Rattle.frp_base.specs.Name.{name_eq}
use Rattle.frp_base.proofs.Booleans.{both_true, chosen, or_more}
use Rattle.frp_graph.specs.declared.prog.Prog.{Prog}
use Rattle.frp_graph.specs.declared.trace.Node.{Node}
use Rattle.frp_graph.specs.declared.trace.Moment.{Moment}
use Rattle.frp_graph.specs.declared.trace.Sent.{Sent}
use Rattle.frp_graph.specs.declared.evidence.Phase.{Phase}
use Rattle.frp_graph.specs.declared.evidence.Phase.TheVariants.{Birth, During}
use Rattle.frp_graph.specs.Trace.{Sight, node_in, live, node_first, post_in, sight_of}
use Rattle.frp_graph.specs.Births.{plans_by}
use Rattle.frp_graph.specs.Evidence.{has_reads}
use Rattle.frp_graph.specs.Links.{is_new, links_from, links, is_linked}
use Rattle.frp_graph.specs.Moments.{IsMoment}
use Rattle.frp_graph.specs.Sends.{sent_in}
use Rattle.frp_graph.specs.Sound.{IsSoundAfter}
use Rattle.frp_graph.specs.TypedProg.{IsTypedProg, is_cell}
use Rattle.frp_graph.specs.Values.{type_among}
use Rattle.frp_graph.specs.WellFormed.{has_typed_first, Allows, IsWellFormed, HasFirsts}
use Rattle.frp_graph.specs.ShapeLaws.{Stays}
use Rattle.frp_graph.proofs.Allowed.{allowed_stays}
use Rattle.frp_graph.proofs.Lists.{name_same, name_eq-same, node_found}
use Rattle.frp_graph.proofs.TypedSights as sights
use Rattle.frp_graph.proofs.Readable.{reads_are_there}
use Rattle.frp_graph.proofs.TypedSights.{Fits, FitsCell, fits_some, cell_some, some_fits, some_cell}
use Rattle.frp_audit.proofs.Ranks.{In, Low, low, depth, falls}
use Rattle.frp_audit.proofs.Seen.{fits_more, cell_more, bare, bare_name, bare_type, seen, seen_shown, shown_seen, type_shown, type_seen, first_kept, shown_allowed}
use Rattle.frp_audit.proofs.Sides.{Extends, IsSame, holds, cell_holds, Agrees}
use Rattle.frp_audit.proofs.Agreeing.{IsSide, IsWhole, agrees_at}
use Rattle.frp_audit.proofs.Pasts.{Earlier, older, IsPast, moment_extends, moment_made, moment_whole, is_born_now, same_node_old, all_there}

-- what holds of each name that is among some holds of each of them
all_any : (P : Name → Type 0) (ns : List Name) → ((j : Name) → list_any (λ k. name_eq k j) ns ≡ true → P j) → AllByRecursion P ns
all_any P [] f = tt
all_any P (n ∷ ns) f = (
  f n (ap (λ b. b || list_any (λ k. name_eq k n) ns) (name_eq-same n)),
  all_any P ns (λ j h. f j (or_more (name_eq n j) _ h)),
)

-- a node that is found has a name of the list
pub named_in : (xs : List Node) (n : Name) (x : Node) → node_in xs n ≡ Some x → In n (map (λ x. x.name) xs)
named_in [] n x e = absurd cc
named_in (y ∷ ys) n x e = elim (chosen (name_eq y.name n) y x (node_in ys n) e) [
  | inl f ↦ inl (sym (name_same y.name n f.0))
  | inr r ↦ inr (named_in ys n x r.1)
]

module _ (prog : Prog) (typed : IsTypedProg prog) (sends : List Sent) (past : List Moment) (is_past : IsPast prog past) (m : Moment) (earlier : Earlier m.time past)
    (happens : IsMoment prog sends past m) (sound : IsSoundAfter prog past m) where
  abbrev w : Sight
  w = sight_of past m

  abbrev old : Sight
  old = older past m.time

  ew : Extends old w
  ew = moment_extends prog past is_past m earlier sends happens

  -- Ranks.

  abbrev names : List Name
  names = map (λ x. x.name) (live (past ++ m ∷ []))

  sources : (phase : Phase) (a b : Name) → is_linked w phase a b ≡ true → In a names
  sources phase a b h = by (w.node a) refl where
    by : (o : Option Node) → w.node a ≡ o → In a names
    by (Some x) e = named_in (live (past ++ m ∷ [])) a x e
    by None e = absurd (let f : false ≡ true = rw e at h in cc)

  low_in : (phase : Phase) (n : Name) → Low (is_linked w phase) (suc (length names)) n
  low_in phase n = low (is_linked w phase) names (sources phase) (sound.chainless phase) n

  abbrev leads : Name → List Name
  leads n = links_from w (post_in w) During (w.node n)

  abbrev pub rank : Name → ℕ
  rank n = depth leads (suc (length names)) n

  is_lower : (n : Name) (x : Node) → w.node n ≡ Some x → AllByRecursion (λ j. rank j < rank n) (links w During x)
  is_lower n x e =
      all_any (λ j. rank j < rank n) (links w During x) (λ j h.
      let l : is_linked w During n j ≡ true = rw e h in
      falls leads (length names) n j (low_in During n) l)

  -- First values.

  typed_first : (n : Name) (x : Node) → w.node n ≡ Some x → is_new w n ≡ true → has_typed_first prog w x ≡ true
  typed_first n x e new = (node_found (has_typed_first prog w) m.born n x (is_born_now prog past is_past m earlier sends happens n x e new) sound.firsts).1

  in_past : (n : Name) (x : Node) → w.node n ≡ Some x → is_new w n ≡ false → node_in (live past) n ≡ Some x
  in_past n x e f = sym (same_node_old prog past is_past m earlier sends happens n f) ∙ e

  pub cells : (n : Name) (x : Node) (v : Val) → w.node n ≡ Some x → x.first ≡ Some v → is_cell x.ty ≡ true
  cells n x v e f = by (is_new w n) refl where
    by : (b : Bool) → is_new w n ≡ b → is_cell x.ty ≡ true
    by true new = (both_true _ _ (cell_some prog w x x.first (both_true _ _ (typed_first n x e new)).0 v f)).0
    by false o = (both_true _ _ (cell_some prog old x x.first ((is_past.formed m.time).firsts n x (in_past n x e o)) v f)).0

  there_where : (a b : Bool) → not a || b ≡ true → a ≡ true → b ≡ true
  there_where true b h e = h
  there_where false b h e = absurd cc

  first_there : (n : Name) (x : Node) → w.node n ≡ Some x → is_cell x.ty ≡ true → is_some x.first ≡ true
  first_there n x e c = by (is_new w n) refl where
    by : (b : Bool) → is_new w n ≡ b → is_some x.first ≡ true
    by true new = there_where (is_cell x.ty) (is_some x.first) (both_true _ _ (typed_first n x e new)).1 c
    by false o = (is_past.firsts m.time).first n x (in_past n x e o) c

  before_there : (n : Name) (x : Node) → w.node n ≡ Some x → is_cell x.ty ≡ true → is_some (w.pre n) ≡ true
  before_there n x e c = by (is_new w n) refl where
    by : (b : Bool) → is_new w n ≡ b → is_some (w.pre n) ≡ true
    by true new = ap is_some (ew.first n new ∙ ap (option_and_then node_first) e) ∙ first_there n x e c
    by false o =
        let p : node_in (live past) n ≡ Some x = in_past n x e o in
        ap is_some (ew.older_pre n o) ∙ ap (λ (k : Name). is_some (old.pre k)) (sym (ew.named n x e)) ∙ (is_past.firsts m.time).before n x p c

  pub firsts_there : HasFirsts w
  firsts_there = record {
    first = first_there;
    before = λ n x e c. ap (λ (k : Name). is_some (w.pre k)) (ew.named n x e) ∙ before_there n x e c;
  }

  -- what has a value before is a cell
  pre_cell : (n : Name) (x : Node) (v : Val) → w.node n ≡ Some x → w.pre n ≡ Some v → is_cell x.ty ≡ true
  pre_cell n x v e p = by (is_new w n) refl where
    by : (b : Bool) → is_new w n ≡ b → is_cell x.ty ≡ true
    by true new = cells n x v e (ap (option_and_then node_first) (sym e) ∙ sym (ew.first n new) ∙ p)
    by false o =
        let here : old.pre x.name ≡ Some v = ap old.pre (ew.named n x e) ∙ sym (ew.older_pre n o) ∙ p in
        (both_true _ _ (cell_some prog old x (old.pre x.name) ((is_past.formed m.time).befores n x (in_past n x e o)) v here)).0

  -- so it is of each part

  bare_first : (b : Bool) (z : Node) → b ≡ true → is_some z.first ≡ true → is_some (bare b z).first ≡ true
  bare_first true z e h = h
  bare_first false z e h = absurd cc

  part_firsts : (shown fired : Name → Bool) → HasFirsts (seen w shown (holds w) fired)
  part_firsts shown fired = record {
    first = λ n y e c.
        let s = seen_shown w shown (holds w) fired n y e in
        let cell : is_cell s.node.ty ≡ true = sym (ap is_cell (bare_type (holds w n) s.node)) ∙ ap (λ (z : Node). is_cell z.ty) s.is ∙ c in
        sym (ap (λ (z : Node). is_some z.first) s.is) ∙ bare_first (holds w n) s.node (cell_holds w n s.node s.found cell) (first_there n s.node s.found cell);
    before = λ n y e c.
        let s = seen_shown w shown (holds w) fired n y e in
        let name : y.name ≡ n = sym (ap (λ (z : Node). z.name) s.is) ∙ bare_name (holds w n) s.node ∙ ew.named n s.node s.found in
        let cell : is_cell s.node.ty ≡ true = sym (ap is_cell (bare_type (holds w n) s.node)) ∙ ap (λ (z : Node). is_cell z.ty) s.is ∙ c in
        let held : holds w n ≡ true = cell_holds w n s.node s.found cell in
        let shown_here : shown n ≡ true = s.is_shown in
        let here : is_some ((seen w shown (holds w) fired).pre n) ≡ true = rw (shown_here, held) (before_there n s.node s.found cell) in
        ap (λ (k : Name). is_some ((seen w shown (holds w) fired).pre k)) name ∙ here;
  }

  bare_reads : (v : Sight) (b : Bool) (x : Node) → has_reads prog v (bare b x) (bare b x).shape ≡ true → has_reads prog v x x.shape ≡ true
  bare_reads v true x h = h
  bare_reads v false x h = h

  abbrev Below : Name → Type 0
  Below n = Unit {0}

  pub side : IsSide prog sends w rank Below
  side = record {
    made = moment_made prog past is_past m earlier sends happens;
    lows = λ n x v e f. (suc (length names), low_in Birth n);
    lower = λ n x e b. is_lower n x e;
    equations = λ n x e b. happens.equations n x e;
    there = λ n x e b. all_there prog past is_past m earlier (plans_by prog w x) (happens.born_exactly.each_is_born n x e);
    reads = λ n x shown fired e b s l formed.
        let v : Sight = seen w shown (holds w) fired in
        bare_reads v (holds w n) x (reads_are_there prog v n (bare (holds w n) x) formed (part_firsts shown fired) (shown_seen w shown (holds w) fired n x s e));
  }

  pub whole : IsWhole prog sends w
  whole = record { made = moment_whole prog past is_past m earlier sends happens; equations = happens.equations }

  -- Another sight at the time agrees with it.
  module _ (sent : (n : Name) (v : Val) → sent_in prog sends m.time n ≡ Some v → (x : Node) × (old.node n ≡ Some x) × Fits prog old x.ty v) where
    self_lt : (r : ℕ) → nat_lt r (suc r) ≡ true
    self_lt r = grind (arith, nat_tests)

    -- a node has its place in some part of what is seen, which is well formed and the same in the other sight
    pub record IsPlaced (u : Sight) (n : Name) (x : Node) : Type 0 where
      pub shown : Name → Bool
      pub fired : Name → Bool
      pub agrees : Agrees prog w u shown fired
      pub is_shown : shown n ≡ true
      pub is_fired : fired n ≡ true

    to_place : (u : Sight) (n : Name) (x : Node) {shown fired : Name → Bool} → Agrees prog w u shown fired → w.node n ≡ Some x → fired n ≡ true → IsPlaced u n x
    to_place u n x {shown = s} {fired = g} a e f = record { shown = s; fired = g; agrees = a; is_shown = a.within n x f e; is_fired = f }

    pub placed : (u : Sight) → Extends old u → IsWhole prog sends u → (n : Name) (x : Node) → w.node n ≡ Some x → IsPlaced u n x
    placed u eu other n x e =
        let a = agrees_at prog typed sends old w u ew eu rank Below (is_past.formed m.time) side other sent (suc (rank n)) (λ k l. tt) in
        let f = self_lt (rank n) in
        to_place u n x a e f

    pub node_same : (u : Sight) → Extends old u → IsWhole prog sends u → (n : Name) (x : Node) → w.node n ≡ Some x → IsSame x (u.node n)
    node_same u eu other n x e = let p = placed u eu other n x e in p.agrees.same n x p.is_shown e

    pub occ_same : (u : Sight) → Extends old u → IsWhole prog sends u → (n : Name) (x : Node) → w.node n ≡ Some x → u.occ n ≡ w.occ n
    occ_same u eu other n x e = let p = placed u eu other n x e in p.agrees.occs n x p.is_fired e

    -- The sight is well formed.

    module _ (n : Name) (x : Node) (e : w.node n ≡ Some x) where
      place : IsPlaced w n x
      place = placed w ew whole n x e

      abbrev part : Sight
      part = seen w place.shown (holds w) place.fired

      of_type : type_among part.node n ≡ Some x.ty
      of_type = type_seen w place.shown (holds w) place.fired n x place.is_shown e

      types : Stays (type_among part.node) (type_among w.node)
      types j a h = let y = type_shown w place.shown (holds w) place.fired j a h in ap (λ o. option_map (λ (z : Node). z.ty) o) y.2 ∙ ap Some y.3

      name : x.name ≡ n
      name = ew.named n x e

      first_fits : (v : Val) → x.first ≡ Some v → FitsCell prog w x.ty v
      first_fits v p =
          let held = cell_holds w n x e (cells n x v e p) in
          cell_more prog part w types x.ty v
          (sights.first_fits prog part place.agrees.formed n x.ty v of_type (bare (holds w n) x) (shown_seen w place.shown (holds w) place.fired n x place.is_shown e)
          (first_kept (holds w n) x v held p))

      before_fits : (v : Val) → w.pre x.name ≡ Some v → FitsCell prog w x.ty v
      before_fits v p =
          let q : w.pre n ≡ Some v = ap w.pre (sym name) ∙ p in
          let held : holds w n ≡ true = cell_holds w n x e (pre_cell n x v e q) in
          let is_shown : place.shown n ≡ true = place.is_shown in
          let r : part.pre n ≡ Some v = rw (is_shown, held) q in
          cell_more prog part w types x.ty v (sights.before_fits prog part place.agrees.formed n x.ty v of_type r)

      occurs_fits : (v : Val) → w.occ x.name ≡ Some v → Fits prog w x.ty v
      occurs_fits v p =
          let is_fired : place.fired n ≡ true = place.is_fired in
          let q : w.occ n ≡ Some v = ap w.occ (sym name) ∙ p in
          let r : part.occ n ≡ Some v = rw is_fired q in
          fits_more prog part w types x.ty v (sights.occ_fits prog part place.agrees.formed n x.ty v of_type r)

      above_fits : (v : Val) → w.above x.name ≡ Some v → Fits prog w x.ty v
      above_fits v p = fits_more prog part w types x.ty v (sights.above_fits prog part place.agrees.formed n x.ty v of_type (ap w.above (sym name) ∙ p))

      shape_fits : Allows prog w x.ty x.shape
      shape_fits = allowed_stays prog part w types x.ty x.shape (shown_allowed prog w place.shown (holds w) place.fired n x place.agrees.formed place.is_shown e)

    pub well_formed : IsWellFormed prog w
    well_formed = record {
      program = typed;
      shapes = shape_fits;
      named = ew.named;
      firsts = λ n x e. some_cell prog w x x.first (first_fits n x e);
      befores = λ n x e. some_cell prog w x (w.pre x.name) (before_fits n x e);
      occurrences = λ n x e. some_fits prog w x (w.occ x.name) (occurs_fits n x e);
      aboves = λ n x e. some_fits prog w x (w.above x.name) (above_fits n x e);
      only_live = λ n v e. ap is_some (ew.only_live n v e).1;
    }
