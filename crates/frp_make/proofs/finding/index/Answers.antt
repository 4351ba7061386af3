use Rattle.std.proofs.Common.{◌≡◌, Some, sym, ap, ◌∙◌, subst, arith}
use Rattle.std.specs.Prelude.{slice_get}
use Rattle.std.specs.BTreeMap.{Updates}
use Rattle.frp_base.specs.Name.{name_cmp}
use Rattle.frp_graph.specs.declared.trace.Node.{Node}
use Rattle.frp_graph.proofs.Options.{index_is}
use Rattle.frp_make.proofs.Indices.{found_more, all_more}
use Rattle.frp_make.proofs.Items.{get_inside, get_there}
use Rattle.frp_make.proofs.finding.index.Goals as goal

pub loop-place-preserved : goal.loop-place-preserved
loop-place-preserved c =
    let nodes = c.args.nodes.now in
    let i = c.loop-place.place in
    let m = c.loop-place.index in
    let n = c.insert.new.self in
    let x : Node = c.index-nodes-place.result in
    let y = get_there nodes i c.loop-place-test.true in
    let is : x ≡ y.0 = c.index-nodes-place.is ∙ index_is nodes i x y.0 y.1 in
    let here : slice_get nodes i ≡ Some x = y.1 ∙ ap Some (sym is) in
    let puts : Updates name_cmp m n x.name (Some i) = subst (λ k. Updates name_cmp m n k (Some i)) c.in_ok-copy.ensures c.in_ok-insert.ensures.updates in
    record {
      found = found_more nodes m n i x here puts c.loop-place.invariant.found;
      all = all_more nodes m n i x here puts c.requires c.loop-place.invariant.all;
    }

pub returns : goal.returns
returns c = record {
  found = c.loop-place.invariant.found;
  all = λ i x e.
      let l = get_inside c.args.nodes.now i x e in
      let k = c.loop-place-test.false in
      c.loop-place.invariant.all i x (omega arith) e;
}
