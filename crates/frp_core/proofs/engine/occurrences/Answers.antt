use Rattle.std.proofs.Common.{◌≡◌, length, sym, ap, ◌∙◌, subst}
use Rattle.std.specs.Option.{option_copied}
use Rattle.frp_graph.specs.Equations.{row}
use Rattle.frp_core.specs.Small.{IsSmall}
use Rattle.frp_core.specs.Engine.{sends_of_fact, sees}
use Rattle.frp_core.proofs.Settling.{small_here, settled_more}
use Rattle.frp_core.proofs.engine.occurrences.Goals as goal

pub occurrence-requires : goal.occurrence-requires
occurrence-requires c =
    let prog = c.args.prog.now in
    let x = c.node-item.result in
    subst (λ os. IsSmall (length os) x.shape) (sym c.as_slice.ensures)
    (small_here prog c.args.place (option_copied c.args.sent) c.args.nodes.now c.loop-node.occs c.loop-node.node-index x c.loop-node-test.true c.node-item.is c.loop-node.invariant c.requires)

pub loop-node-preserved : goal.loop-node-preserved
loop-node-preserved c =
    let prog = c.args.prog.now in
    let x = c.node-item.result in
    let sent = option_copied c.args.sent in
    let r : c.in_ok-occ.occ ≡ row prog (sends_of_fact c.args.place sent) (sees c.args.place c.loop-node.occs) x x.shape =
    c.in_ok-occ.ensures ∙ ap (λ os. row prog (sends_of_fact c.args.place sent) (sees c.args.place os) x x.shape) c.as_slice.ensures in
    rw c.in_ok-add.ensures.ok
    (settled_more prog c.args.place sent c.args.nodes.now c.loop-node.occs c.loop-node.node-index x c.loop-node-test.true c.node-item.is c.loop-node.invariant c.in_ok-occ.occ r)
