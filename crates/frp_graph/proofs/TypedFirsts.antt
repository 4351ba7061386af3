-- A first value in a well-formed graph is of its node's type, where the one that is given is.
use Rattle.std.proofs.Common.{◌≡◌, true, [], ◌∷◌, Option, Some, subst}
use Rattle.std.specs.Prelude.{option_and_then}
use Rattle.frp_base.specs.declared.ty.Ty.{Ty}
use Rattle.frp_base.specs.declared.ty.Ty.TheVariants as t
use Rattle.frp_base.specs.declared.val.Val.{Val}
use Rattle.frp_graph.specs.declared.prog.Prog.{Prog}
use Rattle.frp_graph.specs.declared.trace.Node.{Node}
use Rattle.frp_graph.specs.declared.shape.Shape.{Shape}
use Rattle.frp_graph.specs.declared.shape.Shape.TheVariants.{Constant, Loop, Hold, Mapc, Apply, Switchc}
use Rattle.frp_graph.specs.Trace.{Sight, node_first}
use Rattle.frp_graph.specs.Applied.{call, applied, target}
use Rattle.frp_graph.specs.TypedProg.{sigs}
use Rattle.frp_graph.specs.Values.{type_among, is_value}
use Rattle.frp_graph.specs.FirstValues.{first_value}
use Rattle.frp_graph.specs.WellFormed.{fits_cell, Allows, IsWellFormed}
use Rattle.frp_graph.proofs.Options.{mapped_some, then_some}
use Rattle.frp_graph.proofs.TypedValues.{cell_type, cell_has, refers, one_is}
use Rattle.frp_graph.proofs.TypedCalls.{call_fits, applied_fits}
use Rattle.frp_graph.proofs.TypedSights.{FitsCell, cell_some, some_cell, cell_before, before_fits, first_fits}

module _ (prog : Prog) (w : Sight) (h : IsWellFormed prog w) where
  -- the first value of a node of this type and shape, where one is given that fits
  first_some : (x : Ty) (shape : Shape) (given : Option Val) → Allows prog w x shape → ((v : Val) → given ≡ Some v → FitsCell prog w x v)
      → (v : Val) → first_value prog w given shape ≡ Some v → FitsCell prog w x v
  first_some x Constant given p g v e = g v e
  first_some x (Hold s) given p g v e = g v e
  first_some x (Mapc f c) given (a, b, source, gives, is) g v e =
      let y = mapped_some (λ v. call prog f (v ∷ [])) (w.pre c) v e in
      let argument = cell_before prog w h c a y.0 source y.1 in
      let result = call_fits prog w f (y.0 ∷ []) (a ∷ []) b gives (one_is (type_among w.node) (sigs prog) y.0 a argument) in
      cell_has prog w.node b x v is (subst (λ (v : Val). is_value prog w.node v b ≡ true) y.2 result)
  first_some x (Apply cf ca) given (a, b, function, argument, is) g v e =
      let f = then_some (λ f. option_and_then (applied prog f) (w.pre ca)) (w.pre cf) v e in
      let y = then_some (applied prog f.0) (w.pre ca) v f.2 in
      cell_has prog w.node b x v is
      (applied_fits prog w h.program.funs a b y.0 v (cell_before prog w h ca a y.0 argument y.1) f.0 (cell_before prog w h cf (t.Fun a b) f.0 function f.1) y.2)
  first_some x (Switchc c) given (source, kind) g v e =
      let d = then_some (λ d. w.pre (target d)) (w.pre c) v e in
      let here = refers (type_among w.node) (sigs prog) d.0 x (cell_type x kind) (cell_before prog w h c x d.0 source d.1) in
      before_fits prog w h (target d.0) x v here d.2
  first_some x (Loop to) given (kind, tied) g v e =
      let y = then_some node_first (w.node to) v e in
      first_fits prog w h to x v tied y.0 y.1 y.2
  first_some x _ given p g v e = absurd cc

  pub first_typed : (given : Option Val) (x : Node) → Allows prog w x.ty x.shape → fits_cell prog w x given ≡ true → fits_cell prog w x (first_value prog w given x.shape) ≡ true
  first_typed given x p g = some_cell prog w x (first_value prog w given x.shape) (first_some x.ty x.shape given p (cell_some prog w x given g))
