use Rattle.std.proofs.Common.{Option, sym, ap, ◌∙◌}
use Rattle.std.specs.BTreeMap.{get}
use Rattle.frp_base.specs.Name.{name_cmp}
use Rattle.frp_graph.specs.declared.trace.Node.{Node}
use Rattle.frp_graph.proofs.Options.{index_is}
use Rattle.frp_make.specs.Making.{before_of}
use Rattle.frp_make.proofs.Born.{before_at, not_among}
use Rattle.frp_make.proofs.firsts.before.Goals as goal

pub returns-in-Some : goal.returns-in-Some
returns-in-Some g c =
    let w = g.V.View.sight c.args.view.now in
    let find = get name_cmp c.args.index.now in
    let there = c.requires.index.found c.args.c.now c.in-Some.place.now (sym c.in-Some.ensures.value) in
    c.as_ref.ensures.value
    ∙ ap (λ (z : Node). z.first) (index_is c.args.nodes.now c.in-Some.place.now c.index-nodes-place.result there.0 there.1)
    ∙ sym (before_at c.args.nodes.now find c.requires.index w c.args.c.now c.in-Some.place.now there.0 (sym c.in-Some.ensures.value) there.1)

pub returns-in-None : goal.returns-in-None
returns-in-None g c =
    let w = g.V.View.sight c.args.view.now in
    let none = not_among c.args.nodes.now (get name_cmp c.args.index.now) c.requires.index c.args.c.now (sym c.in-None.ensures.value) in
    sym (ap (λ (o : Option Node). before_of o (w.pre c.args.c.now)) none ∙ c.pre.ensures)
