-- What a row gives in a well-formed graph is of its node's type.
use Rattle.std.proofs.Common.{◌≡◌, ℕ, Bool, true, false, List, [], ◌∷◌, Option, Some, None, refl, ap, ◌∙◌, subst}
use Rattle.std.specs.Prelude.{◌||◌, is_some, slice_get, option_and_then, if◌then◌else◌}
use Rattle.std.specs.List.{AllByRecursion}
use Rattle.std.specs.Ordering.{is_gt}
use Rattle.frp_base.specs.declared.name.Name.{Name}
use Rattle.frp_base.specs.declared.time.Time.{Time}
use Rattle.frp_base.specs.declared.ty.Ty.{Ty}
use Rattle.frp_base.specs.declared.ty.Ty.TheVariants as t
use Rattle.frp_base.specs.declared.val.Val.{Val, out-Val}
use Rattle.frp_base.specs.Time.{time_eq, time_cmp, parent_and_number}
use Rattle.frp_base.specs.Name.{birth}
use Rattle.frp_expr.specs.Parts.{bool_in, items_in}
use Rattle.frp_graph.specs.declared.prog.Prog.{Prog}
use Rattle.frp_graph.specs.declared.trace.Node.{Node}
use Rattle.frp_graph.specs.declared.trace.Sent.{Sent}
use Rattle.frp_graph.specs.declared.shape.Lam.{Lam}
use Rattle.frp_graph.specs.declared.shape.Shape.{Shape}
use Rattle.frp_graph.specs.declared.shape.Shape.TheVariants.{Sink, Never, Constant, Map, Filter, Filteropt, Merge, Snapshot, Split, Updates, Value, Loop, Hold, Mapc, Apply, Switchs, Switchc, Execute}
use Rattle.frp_graph.specs.Trace.{Sight, post_in}
use Rattle.frp_graph.specs.Applied.{call, applied, target, present_in}
use Rattle.frp_graph.specs.Births.{Instance, instance, instance_in, plans_of, plans_by}
use Rattle.frp_graph.specs.Sends.{sent_in}
use Rattle.frp_graph.specs.Equations.{keep_if, map2, merged, split_item, instance_result, row}
use Rattle.frp_graph.specs.TypedProg.{sigs}
use Rattle.frp_graph.specs.Values.{type_among, is_value}
use Rattle.frp_graph.specs.WellFormed.{seen_fits, Returns, Allows, IsWellFormed}
use Rattle.frp_graph.proofs.Options.{mapped_some, then_some, test_some}
use Rattle.frp_graph.proofs.TypedValues.{stream_type, cell_type, stream_fits, cell_fits, refers, item_fits, present_fits, one_is, two_are}
use Rattle.frp_graph.proofs.TypedCalls.{call_fits, applied_fits}
use Rattle.frp_graph.proofs.TypedSights.{Fits, fits_some, some_fits, occ_fits, after_fits, stream_occ, stream_above, cell_occ, cell_before, cell_after}
use Rattle.frp_graph.proofs.TypedBodies.{IsLive, result_fits}

-- Two values that may be there, and an item of a list.

map2_some : (f : Val → Val → Val) (o p : Option Val) (v : Val) → map2 f o p ≡ Some v → (a b : Val) × (o ≡ Some a) × (p ≡ Some b) × (f a b ≡ v)
map2_some f (Some a) (Some b) v h = (a, b, refl, refl, cc)
map2_some f (Some a) None v h = absurd cc
map2_some f None p v h = absurd cc

merged_some : (P : Val → Type 0) (f : Val → Val → Val) (o p : Option Val) → ((a : Val) → o ≡ Some a → P a) → ((b : Val) → p ≡ Some b → P b) → ((a b : Val) → P a → P b → P (f a b))
    → (v : Val) → merged f o p ≡ Some v → P v
merged_some P f (Some a) (Some b) l r both v h = let q : f a b ≡ v = cc in subst P q (both a b (l a refl) (r b refl))
merged_some P f (Some a) None l r both v h = l v h
merged_some P f None p l r both v h = r v h

split_some : (w : Sight) (s : Name) (b : Time) (p : Option (Time × ℕ)) (v : Val) → split_item w s b p ≡ Some v → (l : Val) × (i : ℕ) × (w.above s ≡ Some l) × (slice_get (items_in (out-Val l)) i ≡ Some v)
split_some w s b None v h = absurd cc
split_some w s b (Some p) v h = by (is_gt (time_cmp b p.0)) h where
  by : (c : Bool) → (if c then None else option_and_then (λ l. slice_get (items_in (out-Val l)) p.1) (w.above s)) ≡ Some v
      → (l : Val) × (i : ℕ) × (w.above s ≡ Some l) × (slice_get (items_in (out-Val l)) i ≡ Some v)
  by true h = absurd cc
  by false h = let l = then_some (λ l. slice_get (items_in (out-Val l)) p.1) (w.above s) v h in (l.0, p.1, l.1, l.2)

module _ (prog : Prog) (sends : List Sent) (w : Sight) (h : IsWellFormed prog w) where
  -- Calls.

  call_one : (f : Lam) (a b : Ty) (y v : Val) → Returns prog w f (a ∷ []) b → is_value prog w.node y a ≡ true → call prog f (y ∷ []) ≡ v → is_value prog w.node v b ≡ true
  call_one f a b y v gives fit e =
      subst (λ (v : Val). is_value prog w.node v b ≡ true) e (call_fits prog w f (y ∷ []) (a ∷ []) b gives (one_is (type_among w.node) (sigs prog) y a fit))

  call_two : (f : Lam) (a b d : Ty) (y z : Val) → Returns prog w f (a ∷ b ∷ []) d → is_value prog w.node y a ≡ true → is_value prog w.node z b ≡ true → is_value prog w.node (call prog f (y ∷ z ∷ [])) d ≡ true
  call_two f a b d y z gives fit also = call_fits prog w f (y ∷ z ∷ []) (a ∷ b ∷ []) d gives (two_are (type_among w.node) (sigs prog) y z a b fit also)

  -- The row of a node of this name, type and shape, where what is sent to it and what it makes are right.

  row_some : (n : Node) (x : Ty) (shape : Shape) → Allows prog w x shape → ((v : Val) → sent_in prog sends w.time n.name ≡ Some v → Fits prog w x v)
      → AllByRecursion (IsLive prog w) (plans_of (instance_in prog w n.name shape)) → (v : Val) → row prog sends w n shape ≡ Some v → Fits prog w x v
  row_some n x Sink p sent live v e = sent v e
  row_some n x Never p sent live v e = absurd cc
  row_some n x Constant p sent live v e = absurd cc
  row_some n x (Map f s) (a, b, source, gives, is) sent live v e =
      let y = mapped_some (λ a. call prog f (a ∷ [])) (w.occ s) v e in
      stream_fits prog w.node b x v is (call_one f a b y.0 v gives (stream_occ prog w h s a y.0 source y.1) y.2)
  row_some n x (Mapc f c) (a, b, source, gives, is) sent live v e =
      let y = mapped_some (λ a. call prog f (a ∷ [])) (w.occ c) v e in
      cell_fits prog w.node b x v is (call_one f a b y.0 v gives (cell_occ prog w h c a y.0 source y.1) y.2)
  row_some n x (Filter f s) (a, source, gives, is) sent live v e =
      let y = then_some (λ a. keep_if (bool_in (out-Val (call prog f (a ∷ [])))) (Some a)) (w.occ s) v e in
      occ_fits prog w h s x v source (y.1 ∙ (test_some (bool_in (out-Val (call prog f (y.0 ∷ [])))) (Some y.0) v y.2).1)
  row_some n x (Filteropt s) (a, source, is) sent live v e =
      let y = then_some (λ a. present_in (out-Val a)) (w.occ s) v e in
      stream_fits prog w.node a x v is (present_fits (type_among w.node) (sigs prog) y.0 a v (stream_occ prog w h s (t.Option a) y.0 source y.1) y.2)
  row_some n x (Merge f r s) (a, left, right, gives, is) sent live v e =
      let item : (m : Name) → type_among w.node m ≡ Some x → type_among w.node m ≡ Some (t.Stream a) = λ m q. q ∙ ap Some is in
      stream_fits prog w.node a x v is
      (merged_some (λ v. is_value prog w.node v a ≡ true) (λ y z. call prog f (y ∷ z ∷ [])) (w.occ r) (w.occ s)
      (λ y q. stream_occ prog w h r a y (item r left) q) (λ z q. stream_occ prog w h s a z (item s right) q) (λ y z q r. call_two f a a a y z gives q r) v e)
  row_some n x (Snapshot f s c) (a, b, d, source, cell, gives, is) sent live v e =
      let q = map2_some (λ y z. call prog f (y ∷ z ∷ [])) (w.occ s) (w.pre c) v e in
      let result = call_two f a b d q.0 q.1 gives (stream_occ prog w h s a q.0 source q.2) (cell_before prog w h c b q.1 cell q.3) in
      stream_fits prog w.node d x v is (subst (λ (v : Val). is_value prog w.node v d ≡ true) q.4 result)
  row_some n x (Split s) (a, source, is) sent live v e =
      let l = split_some w s (birth n.name) (parent_and_number w.time) v e in
      stream_fits prog w.node a x v is (item_fits (type_among w.node) (sigs prog) l.0 a l.1 v (stream_above prog w h s (t.List a) l.0 source l.2) l.3)
  row_some n x (Updates c) (a, source, is) sent live v e = stream_fits prog w.node a x v is (cell_occ prog w h c a v source e)
  row_some n x (Value c) (a, source, is) sent live v e = stream_fits prog w.node a x v is (either (time_eq (birth n.name) w.time) e) where
    either : (b : Bool) → (if b then post_in w c else w.occ c) ≡ Some v → is_value prog w.node v a ≡ true
    either true e = cell_after prog w h c a v source e
    either false e = cell_occ prog w h c a v source e
  row_some n x (Loop to) (kind, tied) sent live v e = occ_fits prog w h to x v tied e
  row_some n x (Hold s) (a, source, is) sent live v e = cell_fits prog w.node a x v is (stream_occ prog w h s a v source e)
  row_some n x (Apply cf ca) (a, b, function, argument, is) sent live v e =
      let q = test_some (is_some (w.occ cf) || is_some (w.occ ca)) _ v e in
      let f = then_some (λ f. option_and_then (applied prog f) (post_in w ca)) (post_in w cf) v q.1 in
      let y = then_some (applied prog f.0) (post_in w ca) v f.2 in
      cell_fits prog w.node b x v is
      (applied_fits prog w h.program.funs a b y.0 v (cell_after prog w h ca a y.0 argument y.1) f.0 (cell_after prog w h cf (t.Fun a b) f.0 function f.1) y.2)
  row_some n x (Switchs c) (source, kind) sent live v e =
      let s = then_some (λ s. w.occ (target s)) (w.pre c) v e in
      let here = refers (type_among w.node) (sigs prog) s.0 x (stream_type x kind) (cell_before prog w h c x s.0 source s.1) in
      occ_fits prog w h (target s.0) x v here s.2
  row_some n x (Switchc c) (source, kind) sent live v e =
      let d = then_some (λ d. keep_if (is_some (w.occ c) || is_some (w.occ (target d))) (post_in w (target d))) (post_in w c) v e in
      let here = refers (type_among w.node) (sigs prog) d.0 x (cell_type x kind) (cell_after prog w h c x d.0 source d.1) in
      after_fits prog w h (target d.0) x v here (test_some (is_some (w.occ c) || is_some (w.occ (target d.0))) (post_in w (target d.0)) v d.2).1
  row_some n x (Execute s k kept) (d, pattern, source, fit, is) sent live v e =
      let y = then_some (instance_result prog w n k kept) (w.occ s) v e in
      let i = mapped_some (λ (i : Instance). i.result) (instance prog w n.name k kept y.0) v y.2 in
      let plans = subst (λ (o : Option Val). AllByRecursion (IsLive prog w) (plans_of (option_and_then (instance prog w n.name k kept) o))) y.1 live in
      let nodes = subst (λ (o : Option Instance). AllByRecursion (IsLive prog w) (plans_of o)) i.1 plans in
      let result = result_fits prog w h.program (cell_before prog w h) n.name k kept y.0 d i.0 pattern (stream_occ prog w h s d.param y.0 source y.1) fit i.1 nodes in
      stream_fits prog w.node d.gives x v is (subst (λ (v : Val). is_value prog w.node v d.gives ≡ true) i.2 result)

  pub row_typed : (n : Name) (x : Node) → w.node n ≡ Some x → seen_fits prog w x (sent_in prog sends w.time x.name) ≡ true
      → AllByRecursion (λ d. type_among w.node d.name ≡ Some d.ty) (plans_by prog w x) → seen_fits prog w x (row prog sends w x x.shape) ≡ true
  row_typed n x e sent live =
      some_fits prog w x (row prog sends w x x.shape) (row_some x x.ty x.shape (h.shapes n x e) (fits_some prog w x (sent_in prog sends w.time x.name) sent) live)
