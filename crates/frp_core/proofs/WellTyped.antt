-- The nodes of a typed program's built lines are of types that their shapes allow, with first values of their types.
use Rattle.std.proofs.Common.{◌≡◌, true, false, List, [], ◌∷◌, map, Some, refl, sym, ap, ◌∙◌, subst}
use Rattle.std.specs.Prelude.{◌||◌, not, is_some, option_map}
use Rattle.std.specs.List.{AllByRecursion, list_all}
use Rattle.frp_base.specs.declared.name.Name.{Name}
use Rattle.frp_base.specs.declared.ty.Ty.{Ty, out-Ty}
use Rattle.frp_base.specs.declared.ty.Ty.TheOpen.{Ty-F}
use Rattle.frp_base.specs.declared.ty.Ty.TheOpen as u
use Rattle.frp_base.specs.declared.ty.Ty.TheVariants as t
use Rattle.frp_base.specs.declared.val.Val.{Val}
use Rattle.frp_base.proofs.Booleans.{both_true, true_both, or_true}
use Rattle.frp_base.proofs.Lists.{all_follow}
use Rattle.frp_graph.specs.declared.prog.Prog.{Prog}
use Rattle.frp_graph.specs.declared.prog.LineShape.{LineShape}
use Rattle.frp_graph.specs.declared.prog.LineShape.TheVariants.{Sink, Never, Map, Filter, Hold}
use Rattle.frp_graph.specs.declared.trace.Node.{Node}
use Rattle.frp_graph.specs.Trace.{Sight, node_in}
use Rattle.frp_graph.specs.Births.{Plan, given_by, shape_of, file_plans}
use Rattle.frp_graph.specs.TypedProg.{IsTypedProg, stream_in, cell_in, is_stream, is_cell}
use Rattle.frp_graph.specs.WellFormed.{has_typed_first, Allows}
use Rattle.frp_graph.proofs.TypedValues.{stream_is}
use Rattle.frp_graph.proofs.TypedBodies.{IsLive, IsAllowed, file_allowed}
use Rattle.frp_core.specs.Small.{is_built_shape, is_built, AreSmallFrom}
use Rattle.frp_core.specs.Nodes.{line_nodes}
use Rattle.frp_core.proofs.Times.{all_mapped}
use Rattle.frp_core.proofs.Found.{each_found}
use Rattle.frp_core.proofs.Ready.{ready}
use Rattle.frp_core.proofs.Lines.{small, planned_node, planned, IsBuiltPlan, built_plans}

-- Of the nodes of built lines a cell has a first value.

no_cell_in : (w : Ty-F Ty) → is_some (stream_in w) ≡ true → not (is_some (cell_in w)) ≡ true
no_cell_in (u.Stream a) h = refl
no_cell_in _ h = absurd cc

no_cell : (x : Ty) → is_stream x ≡ true → not (is_cell x) || false ≡ true
no_cell x h = rw (no_cell_in (out-Ty x) h) refl

stream_no_cell : (a x : Ty) → x ≡ t.Stream a → not (is_cell x) || false ≡ true
stream_no_cell a x e = subst (λ (y : Ty). not (is_cell y) || false ≡ true) (sym e) (no_cell (t.Stream a) (stream_is a))

module _ (prog : Prog) (w : Sight) where
  first_there : (all vs : List Val) (x : Ty) (shape : LineShape) → is_built_shape shape ≡ true → Allows prog w x (shape_of all vs shape) → not (is_cell x) || is_some (given_by vs shape) ≡ true
  first_there all vs x Sink b h = no_cell x (both_true _ _ h).0
  first_there all vs x Never b h = no_cell x (both_true _ _ h).0
  first_there all vs x (Map f s) b (a, c, source, gives, is) = stream_no_cell c x is
  first_there all vs x (Filter f s) b (a, source, gives, is) = stream_no_cell a x is
  first_there all vs x (Hold o s) b h = or_true (not (is_cell x))
  first_there all vs x _ b h = absurd cc

  first_right : (d : Plan) → IsBuiltPlan d → IsAllowed prog w d → has_typed_first prog w (planned_node d) ≡ true
  first_right d p a =
      let there = first_there p.all p.values d.ty p.line p.built (subst (Allows prog w d.ty) p.shape a.allowed) in
      true_both _ _ (a.given_fits d.name d.shape) (ap (λ o. not (is_cell d.ty) || is_some o) p.given ∙ there)

  -- Of these nodes each is allowed by its type, and has a first value of it where it is a cell.

  pub record AreRight (xs : List Node) : Type 0 where
    pub allowed : AllByRecursion (λ x. Allows prog w x.ty x.shape) xs
    pub firsts : list_all (has_typed_first prog w) xs ≡ true

  right_plans : (ds : List Plan) → AllByRecursion IsBuiltPlan ds → AllByRecursion (IsAllowed prog w) ds → AreRight (map planned_node ds)
  right_plans [] b a = record { allowed = tt; firsts = refl }
  right_plans (d ∷ ds) b a =
      let rest = right_plans ds b.1 a.1 in
      record { allowed = (a.0.allowed, rest.allowed); firsts = true_both _ _ (first_right d b.0 a.0) rest.firsts }

  -- so it is for those of a typed program that is built, where they are the live ones
  module _ (typed : IsTypedProg prog) (built : is_built prog ≡ true) (same : (n : Name) → w.node n ≡ node_in (line_nodes [] prog.body.lines) n) where
    pub nodes_small : AreSmallFrom 0 (line_nodes [] prog.body.lines)
    nodes_small = small prog.body.lines (ready prog typed built)

    pub nodes_found : AllByRecursion (λ x. w.node x.name ≡ Some x) (line_nodes [] prog.body.lines)
    nodes_found = all_follow _ _ (λ x e. same x.name ∙ e) (line_nodes [] prog.body.lines) (each_found 0 (line_nodes [] prog.body.lines) nodes_small)

    pub nodes_right : AreRight (line_nodes [] prog.body.lines)
    nodes_right =
        let found = all_mapped planned_node (λ x. w.node x.name ≡ Some x) (file_plans prog) (subst (AllByRecursion (λ x. w.node x.name ≡ Some x)) (planned prog built) nodes_found) in
        let live : AllByRecursion (IsLive prog w) (file_plans prog) = all_follow _ _ (λ d e. ap (option_map (λ (x : Node). x.ty)) e) (file_plans prog) found in
        subst AreRight (sym (planned prog built)) (right_plans (file_plans prog) (built_plans prog built) (file_allowed prog w typed live))
