use Rattle.std.proofs.Common.{sym, ap, ◌∙◌}
use Rattle.std.specs.Prelude.{option_and_then}
use Rattle.std.specs.BTreeMap.{get}
use Rattle.frp_base.specs.Name.{name_cmp}
use Rattle.frp_graph.specs.declared.trace.Node.{Node}
use Rattle.frp_graph.specs.Trace.{node_first}
use Rattle.frp_graph.proofs.Options.{index_is}
use Rattle.frp_make.proofs.Born.{node_at, old_node}
use Rattle.frp_make.proofs.firsts.first_of.Goals as goal

pub returns-in-Some : goal.returns-in-Some
returns-in-Some g c =
    let w = g.V.View.sight c.args.view.now in
    let find = get name_cmp c.args.index.now in
    let there = c.requires.found c.args.n.now c.in-Some.place.now (sym c.in-Some.ensures.value) in
    c.as_ref.ensures.value
    ∙ ap (λ (z : Node). z.first) (index_is c.args.nodes.now c.in-Some.place.now c.index-nodes-place.result there.0 there.1)
    ∙ sym (ap (option_and_then node_first) (node_at c.args.nodes.now find c.requires w c.args.n.now c.in-Some.place.now there.0 (sym c.in-Some.ensures.value) there.1))

pub returns-in-Some-node : goal.returns-in-Some-node
returns-in-Some-node g c =
    let w = g.V.View.sight c.args.view.now in
    let old = old_node c.args.nodes.now (get name_cmp c.args.index.now) c.requires w c.args.n.now (sym c.in-None.ensures.value) in
    c.as_ref-in-Some-node.ensures.value ∙ sym (ap (option_and_then node_first) (old ∙ sym c.in-Some-node.ensures))

pub returns-in-None-node : goal.returns-in-None-node
returns-in-None-node g c =
    let w = g.V.View.sight c.args.view.now in
    let old = old_node c.args.nodes.now (get name_cmp c.args.index.now) c.requires w c.args.n.now (sym c.in-None.ensures.value) in
    sym (ap (option_and_then node_first) (old ∙ sym c.in-None-node.ensures))
