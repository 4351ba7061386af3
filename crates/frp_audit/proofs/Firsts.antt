-- First values: those of the nodes that are made at a time are of their types and the same in both sights, along the links of
-- Birth.
use Rattle.std.proofs.Common.{◌≡◌, ℕ, zero, suc, Bool, true, false, List, [], ◌∷◌, filter, Option, Some, None, refl, sym, ap, ◌∙◌, subst}
use Rattle.std.proofs.Common.{inl, inr}
use Rattle.std.specs.Prelude.{◌&&◌, ◌||◌, option_and_then, if◌then◌else◌}
use Rattle.std.specs.List.{list_any}
use Rattle.frp_base.specs.declared.name.Name.{Name}
use Rattle.frp_base.specs.declared.ty.Ty.{Ty}
use Rattle.frp_base.specs.declared.ty.Ty.TheVariants as t
use Rattle.frp_base.specs.declared.val.Val.{Val}
use Rattle.frp_base.specs.Name.{name_eq}
use Rattle.frp_base.proofs.Booleans.{both_true, true_both, either_true, or_more, is_true}
use Rattle.frp_graph.specs.declared.prog.Prog.{Prog}
use Rattle.frp_graph.specs.declared.trace.Node.{Node}
use Rattle.frp_graph.specs.declared.shape.Shape.{Shape}
use Rattle.frp_graph.specs.declared.shape.Shape.TheVariants.{Constant, Loop, Hold, Mapc, Apply, Switchc}
use Rattle.frp_graph.specs.declared.evidence.Phase.TheVariants.{Birth}
use Rattle.frp_graph.specs.Trace.{Sight, node_first, post_in}
use Rattle.frp_graph.specs.Applied.{call, applied, target}
use Rattle.frp_graph.specs.Births.{Plan}
use Rattle.frp_graph.specs.TypedProg.{IsTypedProg, sigs, is_cell}
use Rattle.frp_graph.specs.Values.{type_among}
use Rattle.frp_graph.specs.WellFormed.{fits_cell, Allows, IsWellFormed}
use Rattle.frp_graph.specs.FirstValues.{first_value, IsMade, IsBorn}
use Rattle.frp_graph.specs.Links.{birth_links, is_new, is_new_cell, is_linked}
use Rattle.frp_graph.specs.ShapeLaws.{Stays}
use Rattle.frp_graph.proofs.Allowed.{allowed_stays}
use Rattle.frp_graph.proofs.Lists.{name_same, name_eq-same}
use Rattle.frp_graph.proofs.Options.{mapped_some, then_some}
use Rattle.frp_graph.proofs.TypedValues.{cell_type, cell_is, refers}
use Rattle.frp_graph.proofs.TypedSights.{FitsCell, cell_some, some_cell, cell_before}
use Rattle.frp_graph.proofs.TypedBodies.{IsAllowed}
use Rattle.frp_graph.proofs.TypedFirsts.{first_typed}
use Rattle.frp_audit.proofs.Ranks.{Low}
use Rattle.frp_audit.proofs.Seen.{cell_more, Within, seen, seen_shown, type_shown, pre_seen, types_more, bare, IsRight, formed_seen}
use Rattle.frp_audit.proofs.Sides.{Extends, IsSame, holds, holds_cell, cell_holds, Agrees, right_more, pre_same}

-- First values that are there stay where more values before and first values are.
module _ (prog : Prog) (few many : Sight) (pres : Stays few.pre many.pre)
    (firsts : (m : Name) (v : Val) → option_and_then node_first (few.node m) ≡ Some v → option_and_then node_first (many.node m) ≡ Some v) where
  pub first_stays : (given : Option Val) (shape : Shape) (v : Val) → first_value prog few given shape ≡ Some v → first_value prog many given shape ≡ Some v
  first_stays given Constant v e = e
  first_stays given (Hold s) v e = e
  first_stays given (Mapc f c) v e = let y = mapped_some (λ v. call prog f (v ∷ [])) (few.pre c) v e in rw (pres c y.0 y.1) (ap Some y.2)
  first_stays given (Apply cf ca) v e =
      let f = then_some (λ f. option_and_then (applied prog f) (few.pre ca)) (few.pre cf) v e in
      let y = then_some (applied prog f.0) (few.pre ca) v f.2 in
      rw (pres cf f.0 f.1, pres ca y.0 y.1) y.2
  first_stays given (Switchc c) v e =
      let d = then_some (λ d. few.pre (target d)) (few.pre c) v e in
      rw (pres c d.0 d.1) (pres (target d.0) v d.2)
  first_stays given (Loop to) v e = firsts to v e
  first_stays given _ v e = absurd cc

-- a name among links of which some are left out
pub among_filtered : (q : Name → Bool) (n : Name) (ns : List Name) → q n ≡ true → list_any (λ j. name_eq j n) ns ≡ true → list_any (λ j. name_eq j n) (filter q ns) ≡ true
among_filtered q n [] h a = absurd cc
among_filtered q n (k ∷ ks) h a = elim (either_true (name_eq k n) _ a) [
  | inl e ↦ by (q k) (subst (λ j. q j ≡ true) (sym (name_same k n e)) h) (ap (λ b. b || list_any (λ j. name_eq j n) (filter q ks)) e)
  | inr r ↦ later (q k) (among_filtered q n ks h r)
]
  where
    by : (b : Bool) → b ≡ true → name_eq k n || list_any (λ j. name_eq j n) (filter q ks) ≡ true → list_any (λ j. name_eq j n) (if b then k ∷ filter q ks else filter q ks) ≡ true
    by true h a = a
    by false h a = absurd cc

    later : (b : Bool) → list_any (λ j. name_eq j n) (filter q ks) ≡ true → list_any (λ j. name_eq j n) (if b then k ∷ filter q ks else filter q ks) ≡ true
    later true a = or_more (name_eq k n) _ a
    later false a = a

-- Nodes that are made: they are shown now, and were not before.
module _ (prog : Prog) (typed : IsTypedProg prog) (old w u : Sight) (ew : Extends old w) (eu : Extends old u) (few many fired : Name → Bool)
    (within : Within few many) (olds : (n : Name) → is_new w n ≡ false → few n ≡ true) (agrees : Agrees prog w u few fired) where
  -- the nodes that are made, with the first values of the others alone
  abbrev pub making : Sight
  making = seen w many (λ n. holds w n && few n) fired

  -- a node is made by a plan, in both sights
  pub record IsPlanned (n : Name) (x : Node) : Type 0 where
    pub plan : Plan
    pub made : IsMade plan x
    pub allowed : IsAllowed prog making plan
    pub first : (v : Val) → x.first ≡ Some v → first_value prog w plan.given plan.shape ≡ Some v
    pub node : Node
    pub found : u.node n ≡ Some node
    pub born : IsBorn prog u plan node

  module _ (planned : (n : Name) (x : Node) → few n ≡ false → many n ≡ true → w.node n ≡ Some x → IsPlanned n x) where
    is_made : (n : Name) → few n ≡ false → is_new w n ≡ true
    is_made n e = is_true (is_new w n) (λ f. let s = olds n f in cc)

    pub record IsFirst (n : Name) (x : Node) (v : Val) : Type 0 where
      pub fits : FitsCell prog making x.ty v
      pub there : (y : Node) → u.node n ≡ Some y → y.first ≡ Some v

    abbrev HasFirst : Name → Type 0
    HasFirst n = (x : Node) (v : Val) → few n ≡ false → many n ≡ true → w.node n ≡ Some x → is_cell x.ty ≡ true → x.first ≡ Some v → IsFirst n x v

    -- Where those are kept whose first values are known.
    module _ (kept : Name → Bool) (held : Within kept (holds w)) (before : (n : Name) → kept n ≡ true → few n ≡ false → HasFirst n) where
      abbrev near : Sight
      near = seen w many kept fired

      types : Stays (type_among making.node) (type_among near.node)
      types = types_more w many many (λ n. holds w n && few n) kept fired fired (λ n e. e)

      new_right : (n : Name) (x : Node) → few n ≡ false → many n ≡ true → w.node n ≡ Some x → IsRight prog w many kept fired n x
      new_right n x f m e =
          let p = planned n x f m e in
          let first : (v : Val) → kept n ≡ true → x.first ≡ Some v → FitsCell prog near x.ty v
          = λ v k g. cell_more prog making near types x.ty v (before n k f x v f m e (holds_cell w n x e (held n k)) g).fits in
          record {
            allowed = allowed_stays prog making near types x.ty x.shape
                (subst (λ (s : Shape). Allows prog making x.ty s) (sym p.made.shape) (subst (λ (a : Ty). Allows prog making a p.plan.shape) (sym p.made.ty) p.allowed.allowed));
            first = λ k v g. first v k g;
            before = λ k v g. first v k (ap (option_and_then node_first) (sym e) ∙ sym (ew.first n (is_made n f)) ∙ g);
            occurs = λ k v g. absurd (let s = agrees.within n x k e in cc);
            above = λ v g. absurd (let none : w.above n ≡ None = ew.above n ∙ ew.none_above n (is_made n f) in cc);
          }

      all_right : (n : Name) (x : Node) → many n ≡ true → w.node n ≡ Some x → IsRight prog w many kept fired n x
      all_right n x m e = by (few n) refl where
        by : (b : Bool) → few n ≡ b → IsRight prog w many kept fired n x
        by true f = right_more prog w few fired agrees.formed many kept fired within held n x f e (λ a. a)
        by false f = new_right n x f m e

      pub near_formed : IsWellFormed prog near
      near_formed = formed_seen prog w many kept fired ew.named all_right typed
          (λ n v f o. let x = ew.only_live n v o in (within n (agrees.within n x.0 f x.1), x.0, x.1))

      -- what is seen there the other sight has too
      first_there : (n : Name) (x : Node) (v : Val) → many n ≡ true → kept n ≡ true → w.node n ≡ Some x → x.first ≡ Some v → (y : Node) × (u.node n ≡ Some y) × (y.first ≡ Some v)
      first_there n x v m k e g = by (few n) refl where
        by : (b : Bool) → few n ≡ b → (y : Node) × (u.node n ≡ Some y) × (y.first ≡ Some v)
        by true f = let s = agrees.same n x f e in (s.node, s.found, s.first (holds_cell w n x e (held n k)) v g)
        by false f = let p = planned n x f m e in (p.node, p.found, (before n k f x v f m e (holds_cell w n x e (held n k)) g).there p.node p.found)

      pub near_pres : Stays near.pre u.pre
      near_pres n v e =
          let p = pre_seen w many kept fired n v e in
          let q = both_true _ _ p.0 in
          pre_same prog old w u ew eu n v (λ x f g. first_there n x v q.0 q.1 f g) p.1

      kept_first : (b : Bool) (x : Node) (v : Val) → (bare b x).first ≡ Some v → (b ≡ true) × (x.first ≡ Some v)
      kept_first true x v e = (refl, e)
      kept_first false x v e = absurd cc

      pub near_firsts : (m : Name) (v : Val) → option_and_then node_first (near.node m) ≡ Some v → option_and_then node_first (u.node m) ≡ Some v
      near_firsts m v e =
          let y = then_some node_first (near.node m) v e in
          let s = seen_shown w many kept fired m y.0 y.1 in
          let k = kept_first (kept m) s.node v (ap (λ (z : Node). z.first) s.is ∙ y.2) in
          let z = first_there m s.node v s.is_shown k.0 s.found k.1 in
          rw z.1 z.2

    -- One node, where it is known of those that it is linked to.
    module _ (n : Name) (x : Node) (v : Val) (new : few n ≡ false) (shown : many n ≡ true) (live : w.node n ≡ Some x) (cell : is_cell x.ty ≡ true) (has : x.first ≡ Some v)
        (linked : (m : Name) → is_linked w Birth n m ≡ true → HasFirst m) where
      abbrev kept : Name → Bool
      kept m = holds w m && (few m || is_linked w Birth n m)

      held : Within kept (holds w)
      held m k = (both_true _ _ k).0

      before : (m : Name) → kept m ≡ true → few m ≡ false → HasFirst m
      before m k f = elim (either_true (few m) (is_linked w Birth n m) (both_true _ _ k).1) [ inl e ↦ absurd cc | inr l ↦ linked m l ]

      abbrev there : Sight
      there = seen w many kept fired

      formed : IsWellFormed prog there
      formed = near_formed kept held before

      p : IsPlanned n x
      p = planned n x new shown live

      -- a cell to which it is linked
      is_near : (c : Name) (a : Ty) → type_among there.node c ≡ Some a → is_cell a ≡ true → list_any (λ j. name_eq j c) (birth_links w (post_in w) x.shape) ≡ true → kept c ≡ true
      is_near c a h k l =
          let y = type_shown w many kept fired c a h in
          true_both _ _ (cell_holds w c y.1 y.2 (ap is_cell y.3 ∙ k)) (by (few c) refl)
        where
          by : (b : Bool) → few c ≡ b → (b || is_linked w Birth n c) ≡ true
          by true f = refl
          by false f =
              let y = type_shown w many kept fired c a h in
              let own : is_new_cell w (Some x) ≡ true = true_both _ _ (ap (is_new w) (ew.named n x live) ∙ is_made n new) cell in
              let other : is_new_cell w (Some y.1) ≡ true = true_both _ _ (ap (is_new w) (ew.named c y.1 y.2) ∙ is_made c f) (ap is_cell y.3 ∙ k) in
              rw (live, own) (among_filtered (λ j. is_new_cell w (w.node j)) c (birth_links w (post_in w) x.shape) (rw y.2 other) l)

      pre_near : (c : Name) (a : Ty) (y : Val) → type_among there.node c ≡ Some a → is_cell a ≡ true → list_any (λ j. name_eq j c) (birth_links w (post_in w) x.shape) ≡ true
          → w.pre c ≡ Some y → there.pre c ≡ Some y
      pre_near c a y h k l e =
          let s = type_shown w many kept fired c a h in
          let near : kept c ≡ true = is_near c a h k l in
          rw (s.0, near) e

      first_near : (a : Ty) (shape : Shape) → x.shape ≡ shape → is_cell a ≡ true → Allows prog there a shape → (given : Option Val) → first_value prog w given shape ≡ Some v
          → first_value prog there given shape ≡ Some v
      first_near a Constant s k h given e = e
      first_near a (Hold b) s k h given e = e
      first_near a (Mapc f c) s k (b, d, source, gives, is) given e =
          let y = mapped_some (λ v. call prog f (v ∷ [])) (w.pre c) v e in
          let l : list_any (λ j. name_eq j c) (birth_links w (post_in w) x.shape) ≡ true = rw s (rw (name_eq-same c) refl) in
          rw (pre_near c (t.Cell b) y.0 source (cell_is b) l y.1) (ap Some y.2)
      first_near a (Apply cf ca) s k (b, d, function, argument, is) given e =
          let f = then_some (λ f. option_and_then (applied prog f) (w.pre ca)) (w.pre cf) v e in
          let y = then_some (applied prog f.0) (w.pre ca) v f.2 in
          let l : list_any (λ j. name_eq j cf) (birth_links w (post_in w) x.shape) ≡ true = rw s (rw (name_eq-same cf) refl) in
          let r : list_any (λ j. name_eq j ca) (birth_links w (post_in w) x.shape) ≡ true = rw s (or_more (name_eq cf ca) _ (rw (name_eq-same ca) refl)) in
          rw (pre_near cf (t.Cell (t.Fun b d)) f.0 function (cell_is (t.Fun b d)) l f.1, pre_near ca (t.Cell b) y.0 argument (cell_is b) r y.1) y.2
      first_near a (Switchc c) s k (source, kind) given e =
          let d = then_some (λ d. w.pre (target d)) (w.pre c) v e in
          let l : list_any (λ j. name_eq j c) (birth_links w (post_in w) x.shape) ≡ true = rw s (rw (name_eq-same c) refl) in
          let outer = pre_near c (t.Cell a) d.0 source (cell_is a) l d.1 in
          let inner = refers (type_among there.node) (sigs prog) d.0 a (cell_type a kind) (cell_before prog there formed c a d.0 source outer) in
          let r : list_any (λ j. name_eq j (target d.0)) (birth_links w (post_in w) x.shape) ≡ true
          = rw s (or_more (name_eq c (target d.0)) _ (rw d.1 (rw (name_eq-same (target d.0)) refl))) in
          rw outer (pre_near (target d.0) a v inner kind r d.2)
      first_near a (Loop to) s k (kind, tied) given e =
          let y = then_some node_first (w.node to) v e in
          let l : list_any (λ j. name_eq j to) (birth_links w (post_in w) x.shape) ≡ true = rw s (rw (name_eq-same to) refl) in
          let near : kept to ≡ true = is_near to a tied k l in
          let there = type_shown w many kept fired to a tied in
          rw (there.0, near, y.1) y.2
      first_near a _ s k h given e = absurd cc

      pub known_first : IsFirst n x v
      known_first =
          let right = all_right kept held before n x shown live in
          let e : first_value prog w p.plan.given x.shape ≡ Some v = subst (λ (s : Shape). first_value prog w p.plan.given s ≡ Some v) (sym p.made.shape) (p.first v has) in
          let near = first_near x.ty x.shape refl cell right.allowed p.plan.given e in
          let given = given_near in
          record {
            fits = cell_more prog there making (types_more w many many kept (λ m. holds w m && few m) fired fired (λ m s. s)) x.ty v
                (cell_some prog there x (first_value prog there p.plan.given x.shape) (first_typed prog there formed p.plan.given x right.allowed given) v near);
            there = λ y f.
                let born : first_value prog u p.plan.given x.shape ≡ Some v = first_stays prog there u (near_pres kept held before) (near_firsts kept held before) p.plan.given x.shape v near in
                let same : ◌≡◌ {A = Option Node} (Some p.node) (Some y) = sym p.found ∙ f in
                let is : p.node ≡ y = cc in
                subst (λ (z : Node). z.first ≡ Some v) is (p.born.first ∙ subst (λ (s : Shape). first_value prog u p.plan.given s ≡ Some v) p.made.shape born);
          }
        where
          given_near : fits_cell prog there x p.plan.given ≡ true
          given_near = some_cell prog there x p.plan.given (λ y f.
              let bare : Node = record { name = n; shape = x.shape; ty = p.plan.ty; first = None } in
              let fits = cell_some prog making bare p.plan.given (p.allowed.given_fits n x.shape) y f in
              cell_more prog making there (types_more w many many (λ m. holds w m && few m) kept fired fired (λ m s. s)) x.ty y (subst (λ (a : Ty). FitsCell prog making a y) (sym p.made.ty) fits))

    pub all_first : (k : ℕ) (n : Name) → Low (is_linked w Birth) k n → HasFirst n
    all_first zero n l x v f m e c h = absurd l
    all_first (suc k) n l x v f m e c h = known_first n x v f m e c h (λ j q. all_first k j (l j q))

    -- All of them, where each that has a first value is not on, or before, a closed chain.
    module _ (lows : (n : Name) (x : Node) (v : Val) → w.node n ≡ Some x → x.first ≡ Some v → (k : ℕ) × Low (is_linked w Birth) k n) where
      known_at : (n : Name) → HasFirst n
      known_at n x v f m e c h = let l = lows n x v e h in all_first l.0 n l.1 x v f m e c h

      each_same : (n : Name) (x : Node) → many n ≡ true → w.node n ≡ Some x → IsSame x (u.node n)
      each_same n x m e = by (few n) refl where
        by : (b : Bool) → few n ≡ b → IsSame x (u.node n)
        by true f = agrees.same n x f e
        by false f =
            let p = planned n x f m e in
            record {
              node = p.node;
              found = p.found;
              name = p.born.made.name ∙ sym p.made.name;
              shape = p.born.made.shape ∙ sym p.made.shape;
              ty = p.born.made.ty ∙ sym p.made.ty;
              first = λ c v g. (known_at n x v f m e c g).there p.node p.found;
            }

      pub agrees_made : Agrees prog w u many fired
      agrees_made = record {
        formed = near_formed (holds w) (λ n k. k) (λ n k f. known_at n);
        same = each_same;
        occs = agrees.occs;
        within = λ n x f e. within n (agrees.within n x f e);
      }
