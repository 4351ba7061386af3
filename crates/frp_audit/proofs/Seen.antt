-- Parts of what is seen at a time: some nodes, some of them without their first values, and what some nodes fire.
use Rattle.std.proofs.Common.{◌≡◌, Bool, true, false, Option, Some, None, refl, sym, ap, ◌∙◌, subst}
use Rattle.std.specs.Prelude.{◌&&◌, is_some, option_map, if◌then◌else◌}
use Rattle.frp_base.specs.declared.name.Name.{Name}
use Rattle.frp_base.specs.declared.ty.Ty.{Ty, out-Ty}
use Rattle.frp_base.specs.declared.val.Val.{Val}
use Rattle.frp_base.proofs.Booleans.{both_true, true_both}
use Rattle.frp_expr.proofs.ValuesStay.{stays}
use Rattle.frp_graph.specs.declared.prog.Prog.{Prog}
use Rattle.frp_graph.specs.declared.trace.Node.{Node}
use Rattle.frp_graph.specs.Trace.{Sight}
use Rattle.frp_graph.specs.TypedProg.{IsTypedProg, sigs}
use Rattle.frp_graph.specs.Values.{type_among, held_in, is_of_held}
use Rattle.frp_graph.specs.WellFormed.{Allows, IsWellFormed}
use Rattle.frp_graph.specs.ShapeLaws.{Stays}
use Rattle.frp_graph.proofs.Options.{mapped_some, test_some}
use Rattle.frp_graph.proofs.TypedSights.{Fits, FitsCell, some_fits, some_cell}

-- Values of their types stay so among more nodes.

module _ (prog : Prog) (few many : Sight) (more : Stays (type_among few.node) (type_among many.node)) where
  held_more : (v : Val) (o : Option Ty) → is_of_held prog few.node v o ≡ true → is_of_held prog many.node v o ≡ true
  held_more v None h = absurd cc
  held_more v (Some a) h = stays (type_among few.node) (type_among many.node) (sigs prog) more v a h

  pub fits_more : (x : Ty) (v : Val) → Fits prog few x v → Fits prog many x v
  fits_more x v h = held_more v (held_in (out-Ty x)) h

  pub cell_more : (x : Ty) (v : Val) → FitsCell prog few x v → FitsCell prog many x v
  cell_more x v h = let p = both_true _ _ h in true_both _ _ p.0 (fits_more x v p.1)

-- a node, or the node without its first value
abbrev pub bare : Bool → Node → Node
bare true x = x
bare false x = record { name = x.name; shape = x.shape; ty = x.ty; first = None }

pub bare_name : (b : Bool) (x : Node) → (bare b x).name ≡ x.name
bare_name true x = refl
bare_name false x = refl

pub bare_type : (b : Bool) (x : Node) → (bare b x).ty ≡ x.ty
bare_type true x = refl
bare_type false x = refl

-- what is seen of the shown nodes, with the first values of those that are kept, and what the fired ones fire
abbrev pub seen : Sight → (Name → Bool) → (Name → Bool) → (Name → Bool) → Sight
seen w shown kept fired = record {
  time = w.time;
  node = λ n. if shown n then option_map (bare (kept n)) (w.node n) else None;
  occ = λ n. if fired n then w.occ n else None;
  pre = λ n. if shown n && kept n then w.pre n else None;
  above = w.above;
}

abbrev pub Within : (Name → Bool) → (Name → Bool) → Type 0
Within few many = (n : Name) → few n ≡ true → many n ≡ true

module _ (w : Sight) (shown kept fired : Name → Bool) where
  abbrev part : Sight
  part = seen w shown kept fired

  -- a node that is seen is shown
  pub record IsShown (n : Name) (y : Node) : Type 0 where
    pub is_shown : shown n ≡ true
    pub node : Node
    pub found : w.node n ≡ Some node
    pub is : bare (kept n) node ≡ y

  pub seen_shown : (n : Name) (y : Node) → part.node n ≡ Some y → IsShown n y
  seen_shown n y e =
      let t = test_some (shown n) (option_map (bare (kept n)) (w.node n)) y e in
      let m = mapped_some (bare (kept n)) (w.node n) y t.1 in
      record { is_shown = t.0; node = m.0; found = m.1; is = m.2 }

  pub shown_seen : (n : Name) (x : Node) → shown n ≡ true → w.node n ≡ Some x → part.node n ≡ Some (bare (kept n) x)
  shown_seen n x s e = rw (s, e) refl

  pub type_shown : (n : Name) (a : Ty) → type_among part.node n ≡ Some a → (shown n ≡ true) × (x : Node) × (w.node n ≡ Some x) × (x.ty ≡ a)
  type_shown n a e =
      let y = mapped_some (λ (z : Node). z.ty) (part.node n) a e in
      let s = seen_shown n y.0 y.1 in
      (s.is_shown, s.node, s.found, sym (bare_type (kept n) s.node) ∙ ap (λ (z : Node). z.ty) s.is ∙ y.2)

  pub type_seen : (n : Name) (x : Node) → shown n ≡ true → w.node n ≡ Some x → type_among part.node n ≡ Some x.ty
  type_seen n x s e = ap (option_map (λ (z : Node). z.ty)) (shown_seen n x s e) ∙ ap Some (bare_type (kept n) x)

  pub pre_seen : (n : Name) (v : Val) → part.pre n ≡ Some v → (shown n && kept n ≡ true) × (w.pre n ≡ Some v)
  pre_seen n v e = test_some (shown n && kept n) (w.pre n) v e

-- more nodes are shown
pub types_more : (w : Sight) (few many : Name → Bool) (kept others fired also : Name → Bool) → Within few many
    → Stays (type_among (seen w few kept fired).node) (type_among (seen w many others also).node)
types_more w few many kept others fired also within n a e =
    let t = type_shown w few kept fired n a e in
    type_seen w many others also n t.1 (within n t.0) t.2 ∙ ap Some t.3

-- what a node has without its first value, or with it
pub unbare : (prog : Prog) (v : Sight) (b : Bool) (x : Node) → Allows prog v (bare b x).ty (bare b x).shape → Allows prog v x.ty x.shape
unbare prog v true x h = h
unbare prog v false x h = h

pub first_kept : (b : Bool) (x : Node) (v : Val) → b ≡ true → x.first ≡ Some v → (bare b x).first ≡ Some v
first_kept true x v k e = e
first_kept false x v k e = absurd cc

pub shown_allowed : (prog : Prog) (w : Sight) (shown kept fired : Name → Bool) (n : Name) (x : Node) → IsWellFormed prog (seen w shown kept fired) → shown n ≡ true → w.node n ≡ Some x
    → Allows prog (seen w shown kept fired) x.ty x.shape
shown_allowed prog w shown kept fired n x formed s e =
    unbare prog (seen w shown kept fired) (kept n) x (formed.shapes n (bare (kept n) x) (shown_seen w shown kept fired n x s e))

-- Well-formed parts.

module _ (prog : Prog) (w : Sight) (shown kept fired : Name → Bool) where
  abbrev view : Sight
  view = seen w shown kept fired

  -- what is seen of a shown node is right
  pub record IsRight (n : Name) (x : Node) : Type 0 where
    pub allowed : Allows prog view x.ty x.shape
    pub first : kept n ≡ true → (v : Val) → x.first ≡ Some v → FitsCell prog view x.ty v
    pub before : kept n ≡ true → (v : Val) → w.pre n ≡ Some v → FitsCell prog view x.ty v
    pub occurs : fired n ≡ true → (v : Val) → w.occ n ≡ Some v → Fits prog view x.ty v
    pub above : (v : Val) → w.above n ≡ Some v → Fits prog view x.ty v

  module _ (named : (n : Name) (x : Node) → w.node n ≡ Some x → x.name ≡ n) (right : (n : Name) (x : Node) → shown n ≡ true → w.node n ≡ Some x → IsRight n x) where
    name_is : (n : Name) (y : Node) → view.node n ≡ Some y → y.name ≡ n
    name_is n y e =
        let s = seen_shown w shown kept fired n y e in
        ap (λ (z : Node). z.name) (sym s.is) ∙ bare_name (kept n) s.node ∙ named n s.node s.found

    bare_allowed : (b : Bool) (x : Node) → Allows prog view x.ty x.shape → Allows prog view (bare b x).ty (bare b x).shape
    bare_allowed true x h = h
    bare_allowed false x h = h

    bare_first : (b : Bool) (x : Node) (v : Val) → (bare b x).first ≡ Some v → (b ≡ true) × (x.first ≡ Some v)
    bare_first true x v e = (refl, e)
    bare_first false x v e = absurd cc

    module _ (n : Name) (y : Node) (e : view.node n ≡ Some y) where
      of : IsShown w shown kept fired n y
      of = seen_shown w shown kept fired n y e

      is_right : IsRight n of.node
      is_right = right n of.node of.is_shown of.found

      same_type : of.node.ty ≡ y.ty
      same_type = sym (bare_type (kept n) of.node) ∙ ap (λ (z : Node). z.ty) of.is

      shape_fits : Allows prog view y.ty y.shape
      shape_fits = subst (λ (z : Node). Allows prog view z.ty z.shape) of.is (bare_allowed (kept n) of.node is_right.allowed)

      first_fits : (v : Val) → y.first ≡ Some v → FitsCell prog view y.ty v
      first_fits v f =
          let b = bare_first (kept n) of.node v (ap (λ (z : Node). z.first) of.is ∙ f) in
          subst (λ (a : Ty). FitsCell prog view a v) same_type (is_right.first b.0 v b.1)

      before_fits : (v : Val) → view.pre y.name ≡ Some v → FitsCell prog view y.ty v
      before_fits v f =
          let p = pre_seen w shown kept fired n v (ap view.pre (sym (name_is n y e)) ∙ f) in
          subst (λ (a : Ty). FitsCell prog view a v) same_type (is_right.before (both_true _ _ p.0).1 v p.1)

      occ_fits : (v : Val) → view.occ y.name ≡ Some v → Fits prog view y.ty v
      occ_fits v f =
          let p = test_some (fired n) (w.occ n) v (ap view.occ (sym (name_is n y e)) ∙ f) in
          subst (λ (a : Ty). Fits prog view a v) same_type (is_right.occurs p.0 v p.1)

      above_fits : (v : Val) → view.above y.name ≡ Some v → Fits prog view y.ty v
      above_fits v f = subst (λ (a : Ty). Fits prog view a v) same_type (is_right.above v (ap w.above (sym (name_is n y e)) ∙ f))

    only_seen : (n : Name) (v : Val) → ((v : Val) → fired n ≡ true → w.occ n ≡ Some v → (shown n ≡ true) × (x : Node) × (w.node n ≡ Some x)) → view.occ n ≡ Some v → is_some (view.node n) ≡ true
    only_seen n v only e =
        let t = test_some (fired n) (w.occ n) v e in
        let o = only v t.0 t.1 in
        ap is_some (shown_seen w shown kept fired n o.1 o.0 o.2)

    pub formed_seen : IsTypedProg prog → ((n : Name) (v : Val) → fired n ≡ true → w.occ n ≡ Some v → (shown n ≡ true) × (x : Node) × (w.node n ≡ Some x)) → IsWellFormed prog view
    formed_seen typed only = record {
      program = typed;
      shapes = shape_fits;
      named = name_is;
      firsts = λ n y e. some_cell prog view y y.first (first_fits n y e);
      befores = λ n y e. some_cell prog view y (view.pre y.name) (before_fits n y e);
      occurrences = λ n y e. some_fits prog view y (view.occ y.name) (occ_fits n y e);
      aboves = λ n y e. some_fits prog view y (view.above y.name) (above_fits n y e);
      only_live = λ n v e. only_seen n v (only n) e;
    }
