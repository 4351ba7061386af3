use Rattle.std.proofs.Common.{◌≡◌, Some}
use Rattle.frp_graph.specs.declared.trace.Node.{Node}
use Rattle.frp_graph.specs.Trace.{node_in}
use Rattle.frp_links.proofs.Lists.{all_found}
use Rattle.frp_links_tests.proofs.shown.shown_links.Goals as goal

pub links_of-requires-clause-switches : goal.links_of-requires-clause-switches
links_of-requires-clause-switches c = c.can_read.ensures.switches c.if-not-can_read.false

pub links_of-requires-clause-live : goal.links_of-requires-clause-live
links_of-requires-clause-live c =
    let nodes = c.args.store.now.now.nodes in
    all_found (λ (x : Node). node_in nodes x.name ≡ Some x) nodes c.loop-number.number c.nth.result.now c.live-number-end.ensures.each.live c.nth.ensures
