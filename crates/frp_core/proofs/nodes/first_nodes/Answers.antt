use Rattle.std.proofs.Common.{[], sym, ap, ◌∙◌, subst}
use Rattle.frp_core.specs.Small.{AreSmallFrom}
use Rattle.frp_core.specs.Nodes.{line_nodes, AreReady}
use Rattle.frp_core.proofs.Ready.{ready}
use Rattle.frp_core.proofs.Lines.{small, if_ok}
use Rattle.frp_core.proofs.nodes.first_nodes.Goals as goal

pub nodes_of-requires : goal.nodes_of-requires
nodes_of-requires c = subst (AreReady []) (sym c.as_slice.ensures) (ready c.args.prog.now c.requires.typed c.requires.built)

pub returns-clause-nodes : goal.returns-clause-nodes
returns-clause-nodes c = if_ok c.nodes_of.result (λ nodes e. e ∙ ap (line_nodes []) c.as_slice.ensures) c.nodes_of.ensures

pub returns-clause-small : goal.returns-clause-small
returns-clause-small c =
    let prog = c.args.prog.now in
    if_ok c.nodes_of.result (λ nodes e. subst (AreSmallFrom 0) (sym (e ∙ ap (line_nodes []) c.as_slice.ensures)) (small prog.body.lines (ready prog c.requires.typed c.requires.built))) c.nodes_of.ensures
