-- Rows: what a row looks at, and that it is the same where that is.
use Rattle.std.proofs.Common.{◌≡◌, ℕ, Bool, true, false, List, [], ◌∷◌, ◌++◌, Option, Some, None, refl, sym, ap, ◌∙◌}
use Rattle.std.specs.Prelude.{not, ◌&&◌, ◌||◌, is_some, option_map, option_and_then, if◌then◌else◌}
use Rattle.std.specs.List.{AllByRecursion}
use Rattle.frp_base.specs.declared.time.Time.{Time}
use Rattle.frp_base.specs.declared.name.Name.{Name}
use Rattle.frp_base.specs.declared.val.Val.{Val}
use Rattle.frp_base.specs.Time.{time_eq, parent_and_number}
use Rattle.frp_base.specs.Name.{birth}
use Rattle.frp_base.proofs.Booleans.{both_true}
use Rattle.frp_base.proofs.Lists.{all_front}
use Rattle.frp_graph.specs.declared.prog.Prog.{Prog}
use Rattle.frp_graph.specs.declared.shape.Shape.{Shape}
use Rattle.frp_graph.specs.declared.shape.Shape.TheVariants.{Sink, Never, Constant, Map, Filter, Filteropt, Merge, Snapshot, Split, Updates, Value, Loop, Hold, Mapc, Apply, Switchs, Switchc, Execute}
use Rattle.frp_graph.specs.declared.trace.Node.{Node}
use Rattle.frp_graph.specs.declared.trace.Sent.{Sent}
use Rattle.frp_graph.specs.Trace.{Sight, or_else, post_in}
use Rattle.frp_graph.specs.Applied.{call, applied, target}
use Rattle.frp_graph.specs.Births.{Instance, instance, instance_in}
use Rattle.frp_graph.specs.Sends.{sent_in}
use Rattle.frp_graph.specs.Equations.{keep_if, map2, split_item, instance_result, row}
use Rattle.frp_graph.specs.Links.{targets, operands, during_links}
use Rattle.frp_graph.specs.Evidence.{has_reads}
use Rattle.frp_graph.specs.ShapeLaws.{StaysAt, Stays, ReadsStay, RowsAgree}
use Rattle.frp_graph.proofs.Options.{some_there}

-- where every value before stays, those stay that a shape reads
pub reads_stay : (w u : Sight) → Stays w.pre u.pre → (s : Shape) → ReadsStay w u s
reads_stay w u stays s = each_reads (operands s) where
  each_stays : (ns : List Name) → AllByRecursion (StaysAt w.pre u.pre) ns
  each_stays [] = tt
  each_stays (n ∷ ns) = (stays n, each_stays ns)

  each_reads : (ns : List Name) → AllByRecursion (λ c. StaysAt w.pre u.pre c × AllByRecursion (StaysAt w.pre u.pre) (targets (post_in w c))) ns
  each_reads [] = tt
  each_reads (n ∷ ns) = ((stays n, each_stays (targets (post_in w n))), each_reads ns)

module _ (prog : Prog) (w u : Sight) (time : u.time ≡ w.time) where
  abbrev SameAt : Name → Type 0
  SameAt n = u.occ n ≡ w.occ n

  abbrev Kept : Name → Type 0
  Kept = StaysAt w.pre u.pre

  -- the value after of a cell, where it is there
  post_same : (c : Name) → SameAt c → Kept c → is_some (post_in w c) ≡ true → post_in u c ≡ post_in w c
  post_same c e stays h = by (w.occ c) (w.pre c) e refl h where
    by : (o p : Option Val) → u.occ c ≡ o → w.pre c ≡ p → is_some (or_else o p) ≡ true
        → or_else (u.occ c) (u.pre c) ≡ or_else o p
    by (Some v) p e f h = rw e refl
    by None (Some v) e f h = rw (e, stays v f) refl
    by None None e f h = absurd cc

  -- The rows that look at more than occurrences: each reads its values where the test asks for them.

  snapshot_same : (f : Val → Val → Val) (c : Name) → Kept c → (o p : Option Val) → w.pre c ≡ p
      → not (is_some o) || is_some p ≡ true → map2 f o (u.pre c) ≡ map2 f o p
  snapshot_same f c stays None p e h = refl
  snapshot_same f c stays (Some v) (Some y) e h = rw (stays y e) refl
  snapshot_same f c stays (Some v) None e h = absurd cc

  split_same : (s : Name) (born : Time) (o : Option (Time × ℕ)) → u.above s ≡ w.above s
      → split_item u s born o ≡ split_item w s born o
  split_same s born None e = refl
  split_same s born (Some p) e = rw e refl

  value_same : (c : Name) (b : Bool) → SameAt c → Kept c → not b || is_some (post_in w c) ≡ true
      → (if b then post_in u c else u.occ c) ≡ (if b then post_in w c else w.occ c)
  value_same c true e stays h = post_same c e stays h
  value_same c false e stays h = e

  kept_same : (c : Name) (b : Bool) → SameAt c → Kept c → not b || is_some (post_in w c) ≡ true
      → keep_if b (post_in u c) ≡ keep_if b (post_in w c)
  kept_same c true e stays h = post_same c e stays h
  kept_same c false e stays h = refl

  -- the function's value applied to the argument's
  abbrev applied_in : Sight → Name → Name → Option Val
  applied_in v cf ca = option_and_then (λ f. option_and_then (applied prog f) (post_in v ca)) (post_in v cf)

  apply_same : (cf ca : Name) (b : Bool) → SameAt cf → SameAt ca → Kept cf → Kept ca
      → not b || (is_some (post_in w cf) && is_some (post_in w ca)) ≡ true
      → (if b then applied_in u cf ca else None) ≡ (if b then applied_in w cf ca else None)
  apply_same cf ca true e f stays stay h =
      let there = both_true _ _ h in
      ap (λ o. option_and_then (λ f. option_and_then (applied prog f) (post_in u ca)) o) (post_same cf e stays there.0)
      ∙ ap (λ o. option_and_then (λ f. option_and_then (applied prog f) o) (post_in w cf)) (post_same ca f stay there.1)
  apply_same cf ca false e f stays stay h = refl

  one_fires : (a b : Name) → SameAt a → SameAt b
      → (is_some (u.occ a) || is_some (u.occ b)) ≡ (is_some (w.occ a) || is_some (w.occ b))
  one_fires a b e f = rw (e, f) refl

  switchs_same : (c : Name) → Kept c → AllByRecursion SameAt (targets (w.pre c)) → is_some (w.pre c) ≡ true
      → option_and_then (λ s. u.occ (target s)) (u.pre c) ≡ option_and_then (λ s. w.occ (target s)) (w.pre c)
  switchs_same c stays links h =
      let v = some_there (w.pre c) h in
      let led : AllByRecursion SameAt (targets (Some v.0)) = rw v.1 at links in
      rw (v.1, stays v.0 v.1) led.0

  -- what is given of the inner cell
  abbrev inner_in : Sight → Name → Val → Option Val
  inner_in v c d = keep_if (is_some (v.occ c) || is_some (v.occ (target d))) (post_in v (target d))

  switchc_same : (c : Name) (x : Node) → SameAt c → AllByRecursion SameAt (targets (post_in w c))
      → Kept c → AllByRecursion Kept (targets (post_in w c))
      → has_reads prog w x (Switchc c) ≡ true
      → option_and_then (inner_in u c) (post_in u c) ≡ option_and_then (inner_in w c) (post_in w c)
  switchc_same c x e links stays inner h = by (post_in w c) refl where
    by : (o : Option Val) → post_in w c ≡ o
        → option_and_then (inner_in u c) (post_in u c) ≡ option_and_then (inner_in w c) (post_in w c)
    by (Some d) p =
        let led : AllByRecursion SameAt (targets (Some d)) = rw p at links in
        let kept : AllByRecursion Kept (targets (Some d)) = rw p at inner in
        ap (option_and_then (inner_in u c)) (post_same c e stays (ap is_some p) ∙ p)
        ∙ ap (λ b. keep_if b (post_in u (target d))) (one_fires c (target d) e led.0)
        ∙ kept_same (target d) (is_some (w.occ c) || is_some (w.occ (target d))) led.0 kept.0 (rw p at h)
        ∙ sym (ap (option_and_then (inner_in w c)) p)
    by None p = let reads : false ≡ true = rw p at h in absurd cc

  made_same : (x : Node) (template : ℕ) (kept : List Val) (o : Option Val)
      → option_and_then (instance prog u x.name template kept) o ≡ option_and_then (instance prog w x.name template kept) o
      → option_and_then (instance_result prog u x template kept) o ≡ option_and_then (instance_result prog w x template kept) o
  made_same x template kept None same = refl
  made_same x template kept (Some v) same = ap (option_map (λ (i : Instance). i.result)) same

  -- Each shape's row.

  module _ (sends others : List Sent) (x : Node) (sent : sent_in prog others w.time x.name ≡ sent_in prog sends w.time x.name) where
    row_same : (s : Shape) → AllByRecursion SameAt (during_links w (post_in w) s)
        → ReadsStay w u s → instance_in prog u x.name s ≡ instance_in prog w x.name s
        → AllByRecursion (λ n. u.above n ≡ w.above n) (operands s)
        → has_reads prog w x s ≡ true → row prog others u x s ≡ row prog sends w x s
    row_same Sink l r i a h = ap (λ t. sent_in prog others t x.name) time ∙ sent
    row_same Never l r i a h = refl
    row_same Constant l r i a h = refl
    row_same (Map f s) l r i a h = rw l.0 refl
    row_same (Filter f s) l r i a h = rw l.0 refl
    row_same (Filteropt s) l r i a h = rw l.0 refl
    row_same (Merge f p q) l r i a h = rw (l.0, l.1.0) refl
    row_same (Snapshot f s c) l r i a h = rw l.0 (snapshot_same (λ p q. call prog f (p ∷ q ∷ [])) c r.1.0.0 (w.occ s) (w.pre c) refl h)
    row_same (Split s) l r i a h =
        ap (λ t. split_item u s (birth x.name) (parent_and_number t)) time
        ∙ split_same s (birth x.name) (parent_and_number w.time) a.0
    row_same (Updates c) l r i a h = l.0
    row_same (Value c) l r i a h =
        ap (λ t. if time_eq (birth x.name) t then post_in u c else u.occ c) time
        ∙ value_same c (time_eq (birth x.name) w.time) l.0 r.0.0 h
    row_same (Loop to) l r i a h = l.0
    row_same (Hold s) l r i a h = l.0
    row_same (Mapc f c) l r i a h = rw l.0 refl
    row_same (Apply cf ca) l r i a h =
        ap (λ b. if b then applied_in u cf ca else None) (one_fires cf ca l.0 l.1.0)
        ∙ apply_same cf ca (is_some (w.occ cf) || is_some (w.occ ca)) l.0 l.1.0 r.0.0 r.1.0.0 h
    row_same (Switchs c) l r i a h = switchs_same c r.0.0 l h
    row_same (Switchc c) l r i a h = switchc_same c x l.0 l.1 r.0.0 r.0.1 h
    row_same (Execute s template kept) l r i a h = rw l.0 (made_same x template kept (w.occ s) (rw l.0 at i))

pub rows_agree : RowsAgree
rows_agree prog sends others w u x time same stays made above sent reads =
    let links = all_front (λ n. u.occ n ≡ w.occ n) (during_links w (post_in w) x.shape) _ same in
    row_same prog w u time sends others x sent x.shape links stays made above reads
