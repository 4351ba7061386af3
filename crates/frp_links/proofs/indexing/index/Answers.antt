use Rattle.std.proofs.Common.{Some, subst, arith}
use Rattle.std.specs.BTreeMap.{Updates}
use Rattle.frp_base.specs.Name.{name_cmp}
use Rattle.frp_graph.specs.declared.trace.Node.{Node}
use Rattle.frp_links.proofs.Indices.{found_more, all_more}
use Rattle.frp_links.proofs.Lists.{found_inside}
use Rattle.frp_links.proofs.indexing.index.Goals as goal

pub loop-place-preserved : goal.loop-place-preserved
loop-place-preserved g c =
    let x : Node = c.nth.result.now in
    let m = c.loop-place.index in
    let n = c.insert.new.self in
    let i = c.loop-place.place in
    let puts : Updates name_cmp m n x.name (Some i) = subst (λ k. Updates name_cmp m n k (Some i)) c.in_ok-copy.ensures c.in_ok-insert.ensures.updates in
    record {
      found = found_more (g.V.View.nodes c.args.view.now) m n i x c.nth.ensures puts c.loop-place.invariant.found;
      all = all_more (g.V.View.nodes c.args.view.now) m n i x c.nth.ensures puts c.loop-place.invariant.all;
    }

pub returns-clause-places : goal.returns-clause-places
returns-clause-places g c = record {
  found = c.loop-place.invariant.found;
  all = λ i x e.
      let h = found_inside (g.V.View.nodes c.args.view.now) i x e in
      let k = c.live-place-end.ensures.count in
      let l = c.loop-place-test.false in
      c.loop-place.invariant.all i x (omega arith) e;
}
