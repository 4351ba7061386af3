-- The drafts of a body's nodes: they have distinct names, are new, and are well formed beside the live nodes.
use Rattle.std.proofs.Common.{◌≡◌, ◌⊎◌, ℕ, zero, suc, ◌+◌, true, false, List, [], ◌∷◌, ◌++◌, map, take, Option, Some, None, refl, sym, ap, ◌∙◌, subst, arith, inl, inr}
use Rattle.std.specs.Prelude.{◌&&◌, is_some, slice_get, option_map}
use Rattle.std.specs.List.{AllByRecursion}
use Rattle.std.proofs.lemmas.Option.{same_Some, slice_get-map}
use Rattle.frp_base.specs.declared.name.Name.{Name}
use Rattle.frp_base.specs.declared.name.Stage.{Stage}
use Rattle.frp_base.specs.declared.time.Time.{Time}
use Rattle.frp_base.specs.declared.ty.Ty.{Ty, out-Ty}
use Rattle.frp_base.specs.declared.val.Val.{Val}
use Rattle.frp_base.specs.Name.{declared_name, made_name, item_of}
use Rattle.frp_base.proofs.Booleans.{both_true, true_both}
use Rattle.frp_graph.specs.declared.trace.Node as trace
use Rattle.frp_graph.specs.declared.prog.Prog.{Prog}
use Rattle.frp_graph.specs.declared.prog.Line3.{Line3}
use Rattle.frp_graph.specs.declared.prog.Line3.TheVariants.{Node, Get}
use Rattle.frp_graph.specs.declared.prog.LineShape.{LineShape}
use Rattle.frp_graph.specs.declared.prog.LineShape.TheVariants as l
use Rattle.frp_graph.specs.Trace.{Sight, Each, node_in, or_else}
use Rattle.frp_graph.specs.TypedProg.{IsTypedProg, is_cell, sigs}
use Rattle.frp_graph.specs.Births.{Plan, shape_of, given_by, plans_from}
use Rattle.frp_graph.specs.Links.{is_new}
use Rattle.frp_graph.specs.Values.{type_among, held_in, is_of_held, are_values}
use Rattle.frp_graph.specs.WellFormed.{fits_cell, Allows, IsWellFormed}
use Rattle.frp_graph.specs.ShapeLaws.{Stays}
use Rattle.frp_graph.proofs.Allowed.{allowed_stays}
use Rattle.frp_graph.proofs.Options.{mapped_some}
use Rattle.frp_graph.proofs.TypedValues.{one_is, are_stay}
use Rattle.frp_graph.proofs.TypedSights.{node_of_type}
use Rattle.frp_graph.proofs.TypedBodies.{IsLive, IsAllowed}
use Rattle.frp_make.specs.Making.{with_born, before_of}
use Rattle.frp_make.specs.Lines.{draft_of}
use Rattle.frp_make.specs.Firsts.{AreApart}
use Rattle.frp_make.specs.Search.{has_given, LinksLive, AreDrafts}
use Rattle.frp_make.proofs.Born.{node_place, place_node}

-- Names.

abbrev last_item : Name → ℕ
last_item [] = 0
last_item (s ∷ []) = s.item
last_item (s ∷ r ∷ ss) = last_item (r ∷ ss)

last_pushed : (n : Name) (s : Stage) → last_item (n ++ s ∷ []) ≡ s.item
last_pushed [] s = refl
last_pushed (r ∷ []) s = refl
last_pushed (r ∷ q ∷ n) s = last_pushed (q ∷ n) s

pub made_apart : (n : Name) (t : Time) (j k : ℕ) → made_name n t j ≡ made_name n t k → j ≡ k
made_apart n t j k e = sym (last_pushed n (record { time = t; item = j })) ∙ ap last_item e ∙ last_pushed n (record { time = t; item = k })

pub declared_apart : (j k : ℕ) → declared_name j ≡ declared_name k → j ≡ k
declared_apart j k e = ap item_of e

-- Lists.

pub all_by_place : {A : Type 0} (P : A → Type 0) (xs : List A) → ((p : ℕ) (x : A) → slice_get xs p ≡ Some x → P x) → AllByRecursion P xs
all_by_place P [] f = tt
all_by_place P (x ∷ xs) f = (f 0 x refl, all_by_place P xs (λ p y e. f (suc p) y e))

pub place_of_all : {A : Type 0} (P : A → Type 0) (xs : List A) → AllByRecursion P xs → (p : ℕ) (x : A) → slice_get xs p ≡ Some x → P x
place_of_all P [] h p x e = absurd cc
place_of_all P (y ∷ xs) h zero x e = subst P (same_Some y x e) h.0
place_of_all P (y ∷ xs) h (suc p) x e = place_of_all P xs h.1 p x e

-- a line gives a first value exactly where its node's shape has one that is given
line_given : (all vs : List Val) (shape : LineShape) → is_some (given_by vs shape) ≡ has_given (shape_of all vs shape)
line_given all vs l.Sink = refl
line_given all vs l.Never = refl
line_given all vs (l.Constant o) = refl
line_given all vs (l.Map f a) = refl
line_given all vs (l.Filter f a) = refl
line_given all vs (l.Filteropt a) = refl
line_given all vs (l.Merge f a b) = refl
line_given all vs (l.Snapshot f a c) = refl
line_given all vs (l.Split a) = refl
line_given all vs (l.Updates c) = refl
line_given all vs (l.Value c) = refl
line_given all vs (l.Loop to) = refl
line_given all vs (l.Hold o a) = refl
line_given all vs (l.Mapc f c) = refl
line_given all vs (l.Apply cf ca) = refl
line_given all vs (l.Switchs c) = refl
line_given all vs (l.Switchc c) = refl
line_given all vs (l.Execute a k kept) = refl

-- of a first value, the type alone decides whether it fits
fits_by_type : (prog : Prog) (w : Sight) (x y : trace.Node) (o : Option Val) → x.ty ≡ y.ty → fits_cell prog w x o ≡ true → fits_cell prog w y o ≡ true
fits_by_type prog w x y None e h = refl
fits_by_type prog w x y (Some v) e h = subst (λ (a : Ty). is_cell a && is_of_held prog w.node v (held_in (out-Ty a)) ≡ true) e h

-- What stands of the live nodes, and of the names of new ones.

pub record IsGround (prog : Prog) (w : Sight) : Type 0 where
  pub shapes : Each w (λ x. Allows prog w x.ty x.shape)
  pub named : (n : Name) (x : trace.Node) → w.node n ≡ Some x → x.name ≡ n
  pub firsts : Each w (λ x. fits_cell prog w x x.first ≡ true)
  pub befores : Each w (λ x. fits_cell prog w x (w.pre x.name) ≡ true)
  pub linked : LinksLive w

pub record AreNew (w : Sight) (name : ℕ → Name) : Type 0 where
  pub apart : (j k : ℕ) → name j ≡ name k → j ≡ k
  pub new : (k : ℕ) → is_new w (name k) ≡ true
  pub fresh : (k : ℕ) → w.node (name k) ≡ None

module _ (prog : Prog) (w : Sight) (ground : IsGround prog w) (name : ℕ → Name) (names : AreNew w name) (all : List Val) (n : ℕ) (ls : List Line3) where
  abbrev pub plans : List Plan
  plans = plans_from name all 0 n ls

  abbrev pub drafts : List trace.Node
  drafts = map draft_of plans

  abbrev W : Sight
  W = with_born w drafts

  -- what a plan has, by its place
  name_is : (k n : ℕ) (ls : List Line3) (p : ℕ) (d : Plan) → slice_get (plans_from name all k n ls) p ≡ Some d → d.name ≡ name (k + p)
  name_is k n [] p d e = absurd cc
  name_is k n (Node x shape ∷ ls) zero d e =
      let none : k ≡ k + 0 = omega arith in
      ap (λ (d : Plan). d.name) (sym (same_Some _ d e)) ∙ ap name none
  name_is k n (Node x shape ∷ ls) (suc p) d e =
      let more : (k + 1) + p ≡ k + suc p = omega arith in
      name_is (k + 1) (n + 1) ls p d e ∙ ap name more
  name_is k n (Get c ∷ ls) p d e = name_is k (n + 1) ls p d e

  given_is : (k n : ℕ) (ls : List Line3) (p : ℕ) (d : Plan) → slice_get (plans_from name all k n ls) p ≡ Some d → is_some d.given ≡ has_given d.shape
  given_is k n [] p d e = absurd cc
  given_is k n (Node x shape ∷ ls) zero d e =
      subst (λ (d : Plan). is_some d.given ≡ has_given d.shape) (same_Some (record { name = name k; shape = shape_of all (take n all) shape; ty = x; given = given_by (take n all) shape }) d e)
      (line_given all (take n all) shape)
  given_is k n (Node x shape ∷ ls) (suc p) d e = given_is (k + 1) (n + 1) ls p d e
  given_is k n (Get c ∷ ls) p d e = given_is k (n + 1) ls p d e

  record IsDraft (p : ℕ) (x : trace.Node) : Type 0 where
    plan : Plan
    planned : slice_get plans p ≡ Some plan
    is : draft_of plan ≡ x

  draft : (p : ℕ) (x : trace.Node) → slice_get drafts p ≡ Some x → IsDraft p x
  draft p x e =
      let d = mapped_some draft_of (slice_get plans p) x (sym (slice_get-map draft_of plans p) ∙ e) in
      record { plan = d.0; planned = d.1; is = d.2 }

  draft_at : (p : ℕ) (d : Plan) → slice_get plans p ≡ Some d → slice_get drafts p ≡ Some (draft_of d)
  draft_at p d e = slice_get-map draft_of plans p ∙ ap (option_map draft_of) e

  named : (p : ℕ) (x : trace.Node) → slice_get drafts p ≡ Some x → x.name ≡ name p
  named p x e =
      let d = draft p x e in
      ap (λ (x : trace.Node). x.name) (sym d.is) ∙ name_is 0 n ls p d.plan d.planned ∙ (let z : 0 + p ≡ p = omega arith in ap name z)

  apart : AreApart drafts
  apart p q x y h k e = names.apart p q (sym (named p x h) ∙ e ∙ named q y k)

  -- What is seen.

  found : (p : ℕ) (x : trace.Node) → slice_get drafts p ≡ Some x → node_in drafts x.name ≡ Some x
  found p x h = by (node_in drafts x.name) refl where
    by : (o : Option trace.Node) → node_in drafts x.name ≡ o → node_in drafts x.name ≡ Some x
    by None e = absurd (let s = place_node drafts p x h in let f : is_some (node_in drafts x.name) ≡ false = ap is_some e in cc (s, f))
    by (Some y) e =
        let q = node_place drafts x.name y e in
        let same : q.0 ≡ p = apart q.0 p y x q.1 h q.2 in
        e ∙ sym q.1 ∙ ap (slice_get drafts) same ∙ h

  not_live : (k : Name) (y : trace.Node) → w.node k ≡ Some y → node_in drafts k ≡ None
  not_live k y h = by (node_in drafts k) refl where
    by : (o : Option trace.Node) → node_in drafts k ≡ o → o ≡ None
    by None e = refl
    by (Some z) e =
        let q = node_place drafts k z e in
        let none : w.node k ≡ None = ap w.node (sym q.2 ∙ named q.0 z q.1) ∙ names.fresh q.0 in
        absurd (let s : Some y ≡ None = sym h ∙ none in cc)

  pub old_seen : (k : Name) (y : trace.Node) → w.node k ≡ Some y → W.node k ≡ Some y
  old_seen k y h = ap (λ (o : Option trace.Node). or_else o (w.node k)) (not_live k y h) ∙ h

  record IsNewHere (k : Name) (y : trace.Node) : Type 0 where
    place : ℕ
    here : slice_get drafts place ≡ Some y
    named : y.name ≡ k

  new_or_old : (k : Name) (y : trace.Node) → W.node k ≡ Some y → IsNewHere k y ⊎ ((node_in drafts k ≡ None) × (w.node k ≡ Some y))
  new_or_old k y h = by (node_in drafts k) refl where
    by : (o : Option trace.Node) → node_in drafts k ≡ o → IsNewHere k y ⊎ ((node_in drafts k ≡ None) × (w.node k ≡ Some y))
    by None e = inr (e, sym (ap (λ (o : Option trace.Node). or_else o (w.node k)) e) ∙ h)
    by (Some z) e =
        let is : Some z ≡ Some y = sym (ap (λ (o : Option trace.Node). or_else o (w.node k)) e) ∙ h in
        let q = node_place drafts k y (e ∙ is) in
        inl (record { place = q.0; here = q.1; named = q.2 })

  pub types_more : Stays (type_among w.node) (type_among W.node)
  types_more k a e =
      let y = node_of_type (w.node k) a e in
      ap (option_map (λ (y : trace.Node). y.ty)) (old_seen k y.0 y.1) ∙ ap Some y.2

  pub values_more : (vs : List Val) (ts : List Ty) → are_values prog w.node vs ts ≡ true → are_values prog W.node vs ts ≡ true
  values_more vs ts h = are_stay (sigs prog) (type_among w.node) (type_among W.node) types_more vs ts h

  pub live : AllByRecursion (IsLive prog W) plans
  live = all_by_place (IsLive prog W) plans (λ p d e.
      ap (λ (o : Option trace.Node). option_map (λ (y : trace.Node). y.ty) (or_else o (w.node d.name))) (found p (draft_of d) (draft_at p d e)))

  -- The graph with them.

  held_more : (v : Val) (a : Option Ty) → is_of_held prog w.node v a ≡ true → is_of_held prog W.node v a ≡ true
  held_more v None h = h
  held_more v (Some a) h = (both_true _ _ (values_more (v ∷ []) (a ∷ []) (one_is (type_among w.node) (sigs prog) v a h))).0

  fits_more : (x : trace.Node) (o : Option Val) → fits_cell prog w x o ≡ true → fits_cell prog W x o ≡ true
  fits_more x None h = refl
  fits_more x (Some v) h = let q = both_true _ _ h in true_both _ _ q.0 (held_more v (held_in (out-Ty x.ty)) q.1)

  module _ (allowed : AllByRecursion (IsAllowed prog W) plans) where
    each : (P : trace.Node → Type 0) → ((k : Name) (y : trace.Node) → node_in drafts k ≡ None → w.node k ≡ Some y → P y)
        → ((p : ℕ) (d : Plan) → slice_get plans p ≡ Some d → P (draft_of d)) → Each W P
    each P old new k y e = elim (new_or_old k y e) [
      | inl i ↦ let d = draft i.place y i.here in subst P d.is (new i.place d.plan d.planned)
      | inr i ↦ old k y i.0 i.1
    ]

    allowed_at : (p : ℕ) (d : Plan) → slice_get plans p ≡ Some d → IsAllowed prog W d
    allowed_at p d e = place_of_all (IsAllowed prog W) plans allowed p d e

    first_fits : (p : ℕ) (d : Plan) → slice_get plans p ≡ Some d → fits_cell prog W (draft_of d) d.given ≡ true
    first_fits p d e =
        fits_by_type prog W (record { name = d.name; shape = d.shape; ty = d.ty; first = None }) (draft_of d) d.given refl ((allowed_at p d e).given_fits d.name d.shape)

    formed : IsTypedProg prog → IsWellFormed prog W
    formed typed = record {
      program = typed;
      shapes = each (λ y. Allows prog W y.ty y.shape) (λ k y none e. allowed_stays prog w W types_more y.ty y.shape (ground.shapes k y e)) (λ p d e. (allowed_at p d e).allowed);
      named = λ k y e. elim (new_or_old k y e) [ inl i ↦ i.named | inr i ↦ ground.named k y i.1 ];
      firsts = each (λ y. fits_cell prog W y y.first ≡ true) (λ k y none e. fits_more y y.first (ground.firsts k y e)) first_fits;
      befores = each (λ y. fits_cell prog W y (W.pre y.name) ≡ true)
          (λ k y none e.
          let is : node_in drafts y.name ≡ None = ap (node_in drafts) (ground.named k y e) ∙ none in
          let same : W.pre y.name ≡ w.pre y.name = ap (λ (o : Option trace.Node). before_of o (w.pre y.name)) is in
          ap (fits_cell prog W y) same ∙ fits_more y (w.pre y.name) (ground.befores k y e))
          (λ p d e.
          let same : W.pre d.name ≡ d.given = ap (λ (o : Option trace.Node). before_of o (w.pre d.name)) (found p (draft_of d) (draft_at p d e)) in
          ap (fits_cell prog W (draft_of d)) same ∙ first_fits p d e);
      occurrences = λ k y e. refl;
      aboves = λ k y e. refl;
      only_live = λ k v e. absurd cc;
    }

    pub are_drafts : IsTypedProg prog → AreDrafts prog w drafts
    are_drafts typed = record {
      apart = apart;
      formed = formed typed;
      new = λ p x e. ap (is_new w) (named p x e) ∙ names.new p;
      given = λ p x e.
          let d = draft p x e in
          subst (λ (x : trace.Node). is_some x.first ≡ has_given x.shape) d.is (given_is 0 n ls p d.plan d.planned);
      fresh = λ p x e. ap w.node (named p x e) ∙ names.fresh p;
      older = ground.linked;
    }
