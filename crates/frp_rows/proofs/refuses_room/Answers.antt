use Rattle.std.proofs.Common.{◌≡◌, true, false, List, [], Option, Some, refl, sym, ◌∙◌, subst}
use Rattle.frp_base.specs.declared.ty.Ty.TheVariants as t
use Rattle.frp_graph.specs.declared.shape.Shape.TheVariants as s
use Rattle.frp_graph.specs.declared.trace.Node.{Node}
use Rattle.frp_graph.specs.Trace.{sight_of}
use Rattle.frp_graph.specs.Births.{Instance, instance_in, plans_of}
use Rattle.frp_graph.specs.FirstValues.{are_all_born}
use Rattle.frp_rows.specs.Writing.{item, stream_node}
use Rattle.frp_rows.specs.FullRoom.{prog, trace, born_already}
use Rattle.frp_rows.proofs.Computing.{false_true}
use Rattle.frp_rows.proofs.Evidences.{rules_of}
use Rattle.frp_rows.proofs.refuses_room.Goals as goal

-- an instance that is made of an execute that is found, and is born, is not unborn
not_unborn : (born : List Node) (x y : Node) (i : Instance) → ◌≡◌ {A = Option Node} (Some x) (Some y)
    → instance_in prog (sight_of trace born_already.last) y.name y.shape ≡ Some i
    → are_all_born born (plans_of (instance_in prog (sight_of trace born_already.last) x.name x.shape)) ≡ true → are_all_born born i.nodes ≡ false → ⊥
not_unborn born x y i e m t f =
    let same : x ≡ y = cc in
    let one : instance_in prog (sight_of trace born_already.last) x.name x.shape ≡ Some i
    = subst (λ (z : Node). instance_in prog (sight_of trace born_already.last) z.name z.shape ≡ Some i) (sym same) m in
    let all : are_all_born born i.nodes ≡ true = subst (λ (o : Option Instance). are_all_born born (plans_of o) ≡ true) one t in
    false_true (sym f ∙ all)

pub returns : goal.returns
returns c = record {
  hasty_fact = λ h. false_true (rules_of 1 h).settled.facts_below.1.0;
  skipped = λ h. false_true ((rules_of 1 h).births.those_below (item 2) _ refl refl refl);
  born_already = λ h. let r = (rules_of 1 h).cause in
      not_unborn born_already.last.born (stream_node 1 t.Int (s.Execute (item 0) 0 [])) r.execute r.instance r.is_live r.is_instance refl r.unborn;
}
