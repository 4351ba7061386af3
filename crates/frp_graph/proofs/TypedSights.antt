-- What is seen of a node in a well-formed graph is of its type.
use Rattle.std.proofs.Common.{◌≡◌, true, Option, Some, None, refl, sym, ap, ◌∙◌, subst}
use Rattle.std.specs.Prelude.{◌&&◌, option_map}
use Rattle.frp_base.specs.declared.name.Name.{Name}
use Rattle.frp_base.specs.declared.ty.Ty.{Ty}
use Rattle.frp_base.specs.declared.ty.Ty.TheVariants as t
use Rattle.frp_base.specs.declared.val.Val.{Val}
use Rattle.frp_base.proofs.Booleans.{both_true}
use Rattle.frp_graph.specs.declared.prog.Prog.{Prog}
use Rattle.frp_graph.specs.declared.trace.Node.{Node}
use Rattle.frp_graph.specs.Trace.{Sight, or_else, post_in}
use Rattle.frp_graph.specs.TypedProg.{is_cell}
use Rattle.frp_graph.specs.Values.{type_among, is_value, fits_node}
use Rattle.frp_graph.specs.WellFormed.{seen_fits, fits_cell, IsWellFormed}
use Rattle.frp_graph.proofs.TypedValues.{stream_holds, cell_holds}

-- the node of a type
pub node_of_type : (o : Option Node) (x : Ty) → option_map (λ (y : Node). y.ty) o ≡ Some x → (y : Node) × (o ≡ Some y) × (y.ty ≡ x)
node_of_type None x h = absurd cc
node_of_type (Some y) x h = (y, refl, cc)

module _ (prog : Prog) (w : Sight) where
  -- a value is one that a node of this type holds, and it is a cell's
  abbrev pub Fits : Ty → Val → Type 0
  Fits x v = fits_node prog w.node x v ≡ true

  abbrev pub FitsCell : Ty → Val → Type 0
  FitsCell x v = is_cell x && fits_node prog w.node x v ≡ true

  -- what may be there, by what is
  pub fits_some : (x : Node) (o : Option Val) → seen_fits prog w x o ≡ true → (v : Val) → o ≡ Some v → Fits x.ty v
  fits_some x None h v e = absurd cc
  fits_some x (Some z) h v e = let q : z ≡ v = cc in subst (λ (v : Val). Fits x.ty v) q h

  pub some_fits : (x : Node) (o : Option Val) → ((v : Val) → o ≡ Some v → Fits x.ty v) → seen_fits prog w x o ≡ true
  some_fits x None h = refl
  some_fits x (Some v) h = h v refl

  pub cell_some : (x : Node) (o : Option Val) → fits_cell prog w x o ≡ true → (v : Val) → o ≡ Some v → FitsCell x.ty v
  cell_some x None h v e = absurd cc
  cell_some x (Some z) h v e = let q : z ≡ v = cc in subst (λ (v : Val). FitsCell x.ty v) q h

  pub some_cell : (x : Node) (o : Option Val) → ((v : Val) → o ≡ Some v → FitsCell x.ty v) → fits_cell prog w x o ≡ true
  some_cell x None h = refl
  some_cell x (Some v) h = h v refl

  module _ (h : IsWellFormed prog w) where
    -- the node of a name and a type: its occurrence, its value before and after, and its occurrence above
    module _ (n : Name) (x : Ty) (v : Val) (here : type_among w.node n ≡ Some x) where
      node_here : (y : Node) × (w.node n ≡ Some y) × (y.ty ≡ x)
      node_here = node_of_type (w.node n) x here

      pub occ_fits : w.occ n ≡ Some v → Fits x v
      occ_fits e =
          let y = node_here in
          let found = ap w.occ (h.named n y.0 y.1) ∙ e in
          subst (λ (x : Ty). Fits x v) y.2 (fits_some y.0 (w.occ y.0.name) (h.occurrences n y.0 y.1) v found)

      pub above_fits : w.above n ≡ Some v → Fits x v
      above_fits e =
          let y = node_here in
          let found = ap w.above (h.named n y.0 y.1) ∙ e in
          subst (λ (x : Ty). Fits x v) y.2 (fits_some y.0 (w.above y.0.name) (h.aboves n y.0 y.1) v found)

      pub before_fits : w.pre n ≡ Some v → FitsCell x v
      before_fits e =
          let y = node_here in
          let found = ap w.pre (h.named n y.0 y.1) ∙ e in
          subst (λ (x : Ty). FitsCell x v) y.2 (cell_some y.0 (w.pre y.0.name) (h.befores n y.0 y.1) v found)

      pub first_fits : (y : Node) → w.node n ≡ Some y → y.first ≡ Some v → FitsCell x v
      first_fits y e f =
          let ty : Some y.ty ≡ Some x = sym (ap (option_map (λ (y : Node). y.ty)) e) ∙ here in
          let same : y.ty ≡ x = cc in
          subst (λ (x : Ty). FitsCell x v) same (cell_some y y.first (h.firsts n y e) v f)

      pub after_fits : post_in w n ≡ Some v → Fits x v
      after_fits e = either (w.occ n) (w.pre n) e (λ f. occ_fits f) (λ f. (both_true _ _ (before_fits f)).1) where
        either : (o p : Option Val) → or_else o p ≡ Some v → (o ≡ Some v → Fits x v) → (p ≡ Some v → Fits x v) → Fits x v
        either None p e f g = g e
        either (Some z) p e f g = f e

    -- what a stream or a cell has is of what it holds
    pub stream_occ : (n : Name) (a : Ty) (v : Val) → type_among w.node n ≡ Some (t.Stream a) → w.occ n ≡ Some v → is_value prog w.node v a ≡ true
    stream_occ n a v here e = sym (stream_holds prog w.node a v) ∙ occ_fits n (t.Stream a) v here e

    pub stream_above : (n : Name) (a : Ty) (v : Val) → type_among w.node n ≡ Some (t.Stream a) → w.above n ≡ Some v → is_value prog w.node v a ≡ true
    stream_above n a v here e = sym (stream_holds prog w.node a v) ∙ above_fits n (t.Stream a) v here e

    pub cell_occ : (n : Name) (a : Ty) (v : Val) → type_among w.node n ≡ Some (t.Cell a) → w.occ n ≡ Some v → is_value prog w.node v a ≡ true
    cell_occ n a v here e = sym (cell_holds prog w.node a v) ∙ occ_fits n (t.Cell a) v here e

    pub cell_before : (n : Name) (a : Ty) (v : Val) → type_among w.node n ≡ Some (t.Cell a) → w.pre n ≡ Some v → is_value prog w.node v a ≡ true
    cell_before n a v here e = sym (cell_holds prog w.node a v) ∙ (both_true _ _ (before_fits n (t.Cell a) v here e)).1

    pub cell_after : (n : Name) (a : Ty) (v : Val) → type_among w.node n ≡ Some (t.Cell a) → post_in w n ≡ Some v → is_value prog w.node v a ≡ true
    cell_after n a v here e = sym (cell_holds prog w.node a v) ∙ after_fits n (t.Cell a) v here e
