-- Rows: where what a node links to has fired in both sights alike, its own occurrence is of its type and the same in both.
use Rattle.std.proofs.Common.{◌≡◌, Bool, true, false, List, [], ◌∷◌, ◌++◌, Option, Some, None, refl, sym, ap, ◌∙◌, subst}
use Rattle.std.specs.Prelude.{not, ◌||◌, is_some, option_and_then, if◌then◌else◌}
use Rattle.std.specs.Option.{option_to_list}
use Rattle.std.specs.List.{AllByRecursion}
use Rattle.frp_base.specs.declared.name.Name.{Name}
use Rattle.frp_base.specs.declared.ty.Ty.{Ty}
use Rattle.frp_base.specs.declared.ty.Ty.TheVariants as t
use Rattle.frp_base.specs.declared.val.Val.{Val}
use Rattle.frp_base.specs.Time.{time_eq, parent_and_number}
use Rattle.frp_base.specs.Name.{birth, maker}
use Rattle.frp_base.proofs.Lists.{all_front, all_both, all_follow}
use Rattle.frp_graph.specs.declared.prog.Prog.{Prog}
use Rattle.frp_graph.specs.declared.trace.Node.{Node}
use Rattle.frp_graph.specs.declared.trace.Sent.{Sent}
use Rattle.frp_graph.specs.declared.shape.Shape.{Shape}
use Rattle.frp_graph.specs.declared.shape.Shape.TheVariants.{Sink, Never, Constant, Map, Filter, Filteropt, Merge, Snapshot, Split, Updates, Value, Loop, Hold, Mapc, Apply, Switchs, Switchc, Execute}
use Rattle.frp_graph.specs.declared.evidence.Phase.TheVariants.{During}
use Rattle.frp_graph.specs.Trace.{Sight, post_in}
use Rattle.frp_graph.specs.Applied.{target}
use Rattle.frp_graph.specs.Births.{instance, instance_in, plans_by}
use Rattle.frp_graph.specs.Sends.{sent_in}
use Rattle.frp_graph.specs.Equations.{instance_result, split_item, row}
use Rattle.frp_graph.specs.Evidence.{has_reads}
use Rattle.frp_graph.specs.Links.{targets, operands, during_links, is_new, links}
use Rattle.frp_graph.specs.TypedProg.{IsTypedProg, sigs, is_cell}
use Rattle.frp_graph.specs.Values.{type_among}
use Rattle.frp_graph.specs.WellFormed.{seen_fits, Allows, IsWellFormed}
use Rattle.frp_graph.specs.ShapeLaws.{Stays}
use Rattle.frp_graph.proofs.Instances.{instances_stay}
use Rattle.frp_graph.proofs.Options.{some_there}
use Rattle.frp_graph.proofs.Rows.{reads_stay, rows_agree}
use Rattle.frp_graph.proofs.TypedValues.{cell_is, stream_type, cell_type, refers}
use Rattle.frp_graph.proofs.TypedSights.{Fits, fits_some, some_fits, cell_before, cell_after}
use Rattle.frp_graph.proofs.TypedRows.{row_typed}
use Rattle.frp_audit.proofs.Seen.{fits_more, seen, shown_seen, type_shown, pre_seen, types_more, IsRight, formed_seen, bare, shown_allowed}
use Rattle.frp_audit.proofs.Sides.{Extends, holds, cell_holds, Agrees, right_with, right_more, pre_stays}

-- a row looks at its node's name alone
row_named : (prog : Prog) (sends : List Sent) (w : Sight) (x y : Node) → x.name ≡ y.name → (s : Shape) → row prog sends w x s ≡ row prog sends w y s
row_named prog sends w x y e Sink = ap (sent_in prog sends w.time) e
row_named prog sends w x y e (Split s) = ap (λ (n : Name). split_item w s (birth n) (parent_and_number w.time)) e
row_named prog sends w x y e (Value c) = ap (λ (n : Name). if time_eq (birth n) w.time then post_in w c else w.occ c) e
row_named prog sends w x y e (Execute s k kept) = by (w.occ s) where
  by : (o : Option Val) → option_and_then (instance_result prog w x k kept) o ≡ option_and_then (instance_result prog w y k kept) o
  by None = refl
  by (Some v) = rw e refl
row_named prog sends w x y e _ = refl

-- What a part of a sight and the whole have in common, where a row is the same in the whole.
module _ (prog : Prog) (sends : List Sent) (part whole : Sight) (time : whole.time ≡ part.time) (stays : Stays part.pre whole.pre) (x : Node) where
  pub made_same : (s : Shape) → AllByRecursion (λ m. whole.occ m ≡ part.occ m) (during_links part (post_in part) s) → has_reads prog part x s ≡ true
      → instance_in prog whole x.name s ≡ instance_in prog part x.name s
  made_same (Execute s k kept) l h = by (part.occ s) refl h where
    by : (o : Option Val) → part.occ s ≡ o → not (is_some o) || is_some (option_and_then (instance prog part x.name k kept) o) ≡ true
        → instance_in prog whole x.name (Execute s k kept) ≡ instance_in prog part x.name (Execute s k kept)
    by None e r = rw (l.0, e) refl
    by (Some a) e r =
        let i = some_there (instance prog part x.name k kept a) r in
        let more = instances_stay prog part whole x.name k kept a i.0 time stays i.1 in
        rw (l.0, e) (more ∙ sym i.1)
  made_same _ l h = refl

  pub whole_row : AllByRecursion (λ m. whole.occ m ≡ part.occ m) (links part During x) → ((m : Name) → whole.above m ≡ part.above m) → has_reads prog part x x.shape ≡ true
      → row prog sends whole x x.shape ≡ row prog sends part x x.shape
  whole_row l a h =
      let made = made_same x.shape (all_front (λ m. whole.occ m ≡ part.occ m) (during_links part (post_in part) x.shape) _ l) h in
      rows_agree prog sends sends part whole x time l (reads_stay part whole stays x.shape) made (each (operands x.shape)) refl h
    where
      each : (ns : List Name) → AllByRecursion (λ m. whole.above m ≡ part.above m) ns
      each [] = tt
      each (n ∷ ns) = (a n, each ns)

  pub whole_made : AllByRecursion (λ m. whole.occ m ≡ part.occ m) (links part During x) → has_reads prog part x x.shape ≡ true
      → instance_in prog whole x.name x.shape ≡ instance_in prog part x.name x.shape
  whole_made l h = made_same x.shape (all_front (λ m. whole.occ m ≡ part.occ m) (during_links part (post_in part) x.shape) _ l) h

-- The links of a node in a part of a sight.
module _ (prog : Prog) (w : Sight) (shown fired : Name → Bool) (formed : IsWellFormed prog (seen w shown (holds w) fired)) where
  abbrev known : Sight
  known = seen w shown (holds w) fired

  abbrev pub IsThere : Name → Type 0
  IsThere m = (z : Node) × (w.node m ≡ Some z)

  abbrev HasFired : Name → Type 0
  HasFired m = fired m ≡ true

  there : (m : Name) (a : Ty) → type_among known.node m ≡ Some a → IsThere m
  there m a h = let s = type_shown w shown (holds w) fired m a h in (s.1, s.2)

  pre_is : (c : Name) (a : Ty) → type_among known.node c ≡ Some (t.Cell a) → known.pre c ≡ w.pre c
  pre_is c a h =
      let s = type_shown w shown (holds w) fired c (t.Cell a) h in
      let held : holds w c ≡ true = cell_holds w c s.1 s.2 (ap is_cell s.3 ∙ cell_is a) in
      rw (s.0, held) refl

  occ_is : (c : Name) → fired c ≡ true → known.occ c ≡ w.occ c
  occ_is c f = rw f refl

  during_same : (a : Ty) (s : Shape) → Allows prog known a s → AllByRecursion HasFired (during_links w (post_in w) s) → during_links known (post_in known) s ≡ during_links w (post_in w) s
  during_same a (Switchs c) (source, kind) f = ap targets (pre_is c a source)
  during_same a (Switchc c) (source, kind) f = rw (occ_is c f.0, pre_is c a source) refl
  during_same a _ h f = refl

  target_there : (a : Ty) (o : Option Val) → ((v : Val) → o ≡ Some v → IsThere (target v)) → AllByRecursion IsThere (targets o)
  target_there a None h = tt
  target_there a (Some v) h = (h v refl, tt)

  during_there : (a : Ty) (s : Shape) → Allows prog known a s → AllByRecursion IsThere (during_links known (post_in known) s)
  during_there a Sink h = tt
  during_there a Never h = tt
  during_there a Constant h = tt
  during_there a (Map f s) (b, c, source, gives, is) = (there s _ source, tt)
  during_there a (Mapc f c) (b, d, source, gives, is) = (there c _ source, tt)
  during_there a (Filter f s) (b, source, gives, is) = (there s _ source, tt)
  during_there a (Filteropt s) (b, source, is) = (there s _ source, tt)
  during_there a (Merge f r s) (b, left, right, gives, is) = (there r _ left, (there s _ right, tt))
  during_there a (Snapshot f s c) (b, d, k, source, cell, gives, is) = (there s _ source, tt)
  during_there a (Split s) h = tt
  during_there a (Updates c) (b, source, is) = (there c _ source, tt)
  during_there a (Value c) (b, source, is) = (there c _ source, tt)
  during_there a (Loop to) (kind, tied) = (there to _ tied, tt)
  during_there a (Hold s) (b, source, is) = (there s _ source, tt)
  during_there a (Apply cf ca) (b, d, function, argument, is) = (there cf _ function, (there ca _ argument, tt))
  during_there a (Switchs c) (source, kind) =
      target_there a (known.pre c) (λ v e.
      there (target v) a (refers (type_among known.node) (sigs prog) v a (stream_type a kind) (cell_before prog known formed c a v source e)))
  during_there a (Switchc c) (source, kind) = (
    there c _ source,
    target_there a (post_in known c) (λ v e.
        there (target v) a (refers (type_among known.node) (sigs prog) v a (cell_type a kind) (cell_after prog known formed c a v source e))),
  )
  during_there a (Execute s k kept) (d, pattern, source, fit, is) = (there s _ source, tt)

  module _ (n : Name) (x : Node) (name : x.name ≡ n) (s : shown n ≡ true) (live : w.node n ≡ Some x) (links_fired : AllByRecursion HasFired (links w During x)) where
    allowed : Allows prog known x.ty x.shape
    allowed = shown_allowed prog w shown (holds w) fired n x formed s live

    pub links_same : links known During x ≡ links w During x
    links_same =
        ap (λ ns. ns ++ (if is_new w x.name then option_to_list (maker x.name) else []))
        (during_same x.ty x.shape allowed (all_front HasFired (during_links w (post_in w) x.shape) _ links_fired))

    pub links_there : ((m : Name) → is_new w n ≡ true → maker n ≡ Some m → IsThere m) → AllByRecursion IsThere (links known During x)
    links_there f =
        all_both IsThere (during_links known (post_in known) x.shape) _ (during_there x.ty x.shape allowed)
        (by (is_new w x.name) (maker x.name) (λ m b e. f m (ap (is_new w) (sym name) ∙ b) (ap maker (sym name) ∙ e)))
      where
        by : (b : Bool) (o : Option Name) → ((m : Name) → b ≡ true → o ≡ Some m → IsThere m) → AllByRecursion IsThere (if b then option_to_list o else [])
        by true (Some m) g = (g m refl refl, tt)
        by true None g = tt
        by false o g = tt

-- More nodes fire.
module _ (prog : Prog) (typed : IsTypedProg prog) (sends : List Sent) (old w u : Sight) (ew : Extends old w) (eu : Extends old u) (shown fired more : Name → Bool)
    (agrees : Agrees prog w u shown fired) where
  abbrev now : Sight
  now = seen w shown (holds w) fired

  -- all that a node links to has fired, and what it reads is there
  pub record IsDue (n : Name) (x : Node) : Type 0 where
    pub is_shown : shown n ≡ true
    pub links_fired : AllByRecursion (λ m. fired m ≡ true) (links w During x)
    pub maker_there : (m : Name) → is_new w n ≡ true → maker n ≡ Some m → (z : Node) × (w.node m ≡ Some z)
    pub reads : has_reads prog now x x.shape ≡ true

  -- and so it can be taken
  pub record IsReady (n : Name) (x : Node) : Type 0 where
    pub is_due : IsDue n x
    pub equation : w.occ x.name ≡ row prog sends w x x.shape
    pub other : (y : Node) → u.node n ≡ Some y → u.occ y.name ≡ row prog sends u y y.shape
    pub plans_live : AllByRecursion (λ d. type_among now.node d.name ≡ Some d.ty) (plans_by prog now x)
    pub sent : seen_fits prog now x (sent_in prog sends now.time x.name) ≡ true

  module _ (n : Name) (x : Node) (live : w.node n ≡ Some x) (due : IsDue n x) where
    same : links now During x ≡ links w During x
    same = links_same prog w shown fired agrees.formed n x (ew.named n x live) due.is_shown live due.links_fired

    links_now : AllByRecursion (λ m. fired m ≡ true) (links now During x)
    links_now = subst (AllByRecursion (λ m. fired m ≡ true)) (sym same) due.links_fired

    own_links : AllByRecursion (λ m. w.occ m ≡ now.occ m) (links now During x)
    own_links = all_follow (λ m. fired m ≡ true) (λ m. w.occ m ≡ now.occ m) (λ m f. rw f refl) (links now During x) links_now

    both : (ns : List Name) → AllByRecursion (λ m. fired m ≡ true) ns → AllByRecursion (IsThere prog w shown fired agrees.formed) ns → AllByRecursion (λ m. u.occ m ≡ now.occ m) ns
    both [] f h = tt
    both (m ∷ ns) f h = (agrees.occs m h.0.0 f.0 h.0.1 ∙ (rw (f.0) refl), both ns f.1 h.1)

    other_links : AllByRecursion (λ m. u.occ m ≡ now.occ m) (links now During x)
    other_links =
        both (links now During x) links_now
        (links_there prog w shown fired agrees.formed n x (ew.named n x live) due.is_shown live due.links_fired due.maker_there)

    own_stays : Stays now.pre w.pre
    own_stays m v e = (pre_seen w shown (holds w) fired m v e).1

    -- and it makes the same
    pub own_made : instance_in prog w x.name x.shape ≡ instance_in prog now x.name x.shape
    own_made = whole_made prog sends now w refl own_stays x own_links due.reads

    pub other_made : instance_in prog u x.name x.shape ≡ instance_in prog now x.name x.shape
    other_made = whole_made prog sends now u (eu.time ∙ sym ew.time) (pre_stays prog old w u ew eu shown fired agrees) x other_links due.reads

    module _ (ready : IsReady n x) where
      own_row : w.occ n ≡ row prog sends now x x.shape
      own_row = ap w.occ (sym (ew.named n x live)) ∙ ready.equation ∙ whole_row prog sends now w refl own_stays x own_links (λ m. refl) due.reads

      other_row : u.occ n ≡ row prog sends now x x.shape
      other_row =
          let s = agrees.same n x due.is_shown live in
          let e : u.occ n ≡ row prog sends u s.node s.node.shape = ap u.occ (sym (eu.named n s.node s.found)) ∙ ready.other s.node s.found in
          e ∙ ap (row prog sends u s.node) s.shape ∙ row_named prog sends u s.node x s.name x.shape
          ∙ whole_row prog sends now u (eu.time ∙ sym ew.time) (pre_stays prog old w u ew eu shown fired agrees) x other_links (λ m. eu.above m ∙ sym (ew.above m)) due.reads

      -- the row of a node is that of the node without its first value
      bare_row : (b : Bool) → now.node n ≡ Some (bare b x) → (v : Val) → row prog sends now x x.shape ≡ Some v → Fits prog now x.ty v
      bare_row true here v e =
          fits_some prog now x (row prog sends now x x.shape) (row_typed prog sends now agrees.formed n x here ready.sent ready.plans_live) v e
      bare_row false here v e =
          let y : Node = bare false x in
          let sent = some_fits prog now y (sent_in prog sends now.time y.name) (fits_some prog now x (sent_in prog sends now.time x.name) ready.sent) in
          let same : row prog sends now y x.shape ≡ row prog sends now x x.shape = row_named prog sends now y x refl x.shape in
          fits_some prog now y (row prog sends now y y.shape) (row_typed prog sends now agrees.formed n y here sent ready.plans_live) v (same ∙ e)

      pub row_fits : (v : Val) → w.occ n ≡ Some v → Fits prog now x.ty v
      row_fits v e = bare_row (holds w n) (shown_seen w shown (holds w) fired n x due.is_shown live) v (sym own_row ∙ e)

      pub same_occ : u.occ n ≡ w.occ n
      same_occ = other_row ∙ sym own_row

  -- those that are taken
  module _ (ready : (n : Name) (x : Node) → fired n ≡ false → more n ≡ true → w.node n ≡ Some x → IsReady n x) where
    each_right : (n : Name) (x : Node) → shown n ≡ true → w.node n ≡ Some x → IsRight prog w shown (holds w) more n x
    each_right n x s e = by (fired n) refl where
      by : (b : Bool) → fired n ≡ b → IsRight prog w shown (holds w) more n x
      by true f = right_more prog w shown fired agrees.formed shown (holds w) more (λ m h. h) (λ m h. h) n x s e (λ h. f)
      by false f =
          right_with prog w shown fired agrees.formed shown (holds w) more (λ m h. h) (λ m h. h) n x s e (λ m v o.
          fits_more prog now (seen w shown (holds w) more) (types_more w shown shown (holds w) (holds w) fired more (λ m h. h)) x.ty v (row_fits n x e (ready n x f m e).is_due (ready n x f m e) v o))

    is_within : (n : Name) (x : Node) → more n ≡ true → w.node n ≡ Some x → shown n ≡ true
    is_within n x m e = by (fired n) refl where
      by : (b : Bool) → fired n ≡ b → shown n ≡ true
      by true f = agrees.within n x f e
      by false f = (ready n x f m e).is_due.is_shown

    pub agrees_more : Agrees prog w u shown more
    agrees_more = record {
      formed = formed_seen prog w shown (holds w) more ew.named each_right typed
          (λ n v f o. let x = ew.only_live n v o in (is_within n x.0 f x.1, x.0, x.1));
      same = agrees.same;
      occs = each_occ;
      within = is_within;
    }
      where
        each_occ : (n : Name) (x : Node) → more n ≡ true → w.node n ≡ Some x → u.occ n ≡ w.occ n
        each_occ n x m e = by (fired n) refl where
          by : (b : Bool) → fired n ≡ b → u.occ n ≡ w.occ n
          by true f = agrees.occs n x f e
          by false f = same_occ n x e (ready n x f m e).is_due (ready n x f m e)
