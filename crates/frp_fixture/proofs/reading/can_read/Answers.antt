use Rattle.std.proofs.Common.{arith}
use Rattle.frp_graph.proofs.Nodes.{found_named}
use Rattle.frp_links.specs.References.{SwitchRefers}
use Rattle.frp_store.specs.State.{sight}
use Rattle.frp_fixture.proofs.Nodes.{HasBefore, up_more, have_befores, switches_refer}
use Rattle.frp_fixture.proofs.reading.can_read.Goals as goal

pub returns-then-not-has_before-clause-named : goal.returns-then-not-has_before-clause-named
returns-then-not-has_before-clause-named c = found_named c.args.store.now.now.nodes

pub loop-place-preserved : goal.loop-place-preserved
loop-place-preserved c =
    let s = c.args.store.now.now in
    let x = c.nth-node.result.now in
    record {
      befores = up_more (HasBefore s) s.nodes c.loop-place.place x c.nth-node.ensures (c.has_before.ensures c.if-not-has_before.false) c.loop-place.invariant.befores;
      switches = up_more (λ y. SwitchRefers (sight s) y.shape) s.nodes c.loop-place.place x c.nth-node.ensures (c.switch_refers.ensures c.if-not-switch_refers.false) c.loop-place.invariant.switches;
    }

pub returns-clause-named : goal.returns-clause-named
returns-clause-named c = found_named c.args.store.now.now.nodes

pub returns-clause-befores : goal.returns-clause-befores
returns-clause-befores c = λ t. have_befores c.args.store.now.now c.live-place-end.ensures.each c.loop-place.place (let k = c.live-place-end.ensures.count in let l = c.loop-place-test.false in omega arith) c.loop-place.invariant.befores

pub returns-clause-switches : goal.returns-clause-switches
returns-clause-switches c = λ t. switches_refer c.args.store.now.now c.live-place-end.ensures.each c.loop-place.place (let k = c.live-place-end.ensures.count in let l = c.loop-place-test.false in omega arith) c.loop-place.invariant.switches
