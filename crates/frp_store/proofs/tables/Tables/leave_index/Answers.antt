use Rattle.std.proofs.Common.{◌≡◌, ◌∙◌, Some, sym, subst}
use Rattle.frp_graph.specs.declared.trace.Node.{Node}
use Rattle.frp_store.specs.declared.held.Held.{Held}
use Rattle.frp_store.specs.Edges.{HasForgotten}
use Rattle.frp_store.proofs.Setting.{get_map}
use Rattle.frp_store.proofs.Indexing.{forgotten_there, forgotten_not}
use Rattle.frp_store.proofs.tables.Tables.leave_index.Goals as goal

pub returns-then-item-place-clause-index : goal.returns-then-item-place-clause-index
returns-then-item-place-clause-index c x g =
    let s = c.args.self.now in
    let h = c.get.result.now in
    let both : Some h.node ≡ Some x = sym (get_map (λ (z : Held). z.node) s.held.items c.args.place h c.get.ensures) ∙ g in
    let same : h.node ≡ x = cc in
    subst (λ (y : Node). HasForgotten s.edges.index c.remove.new.self y.name c.args.place) same
    (forgotten_there s.edges.index c.remove.new.self h.node.name c.args.place c.item.result c.item.ensures c.if-item-place.true c.remove.ensures.updates)

pub returns-else-item-place-clause-index : goal.returns-else-item-place-clause-index
returns-else-item-place-clause-index c x g =
    let s = c.args.self.now in
    let h = c.get.result.now in
    let both : Some h.node ≡ Some x = sym (get_map (λ (z : Held). z.node) s.held.items c.args.place h c.get.ensures) ∙ g in
    let same : h.node ≡ x = cc in
    subst (λ (y : Node). HasForgotten s.edges.index s.edges.index y.name c.args.place) same
    (forgotten_not s.edges.index h.node.name c.args.place c.item.result c.item.ensures c.if-item-place.false)
