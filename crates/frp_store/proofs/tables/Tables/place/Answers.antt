use Rattle.std.proofs.Common.{Some, sym, ap, ◌∙◌}
use Rattle.frp_store.specs.Kept.{stands_at}
use Rattle.frp_store.proofs.Indexing.{item_finds, index_finds_held, place_within_held}
use Rattle.frp_store.proofs.tables.Tables.place.Goals as goal

pub returns-then-stands_at-clause-place : goal.returns-then-stands_at-clause-place
returns-then-stands_at-clause-place c =
    let s = c.args.self.now in
    let e = c.item-item.ensures in
    ap (λ i. Some i) e ∙ sym (item_finds s.held.items s.edges.index c.args.name.now c.requires.findable
    (ap (λ i. stands_at s.held.items i c.args.name.now) (sym e) ∙ sym c.stands_at.ensures ∙ c.if-stands_at.true))

pub returns-then-stands_at-clause-inside : goal.returns-then-stands_at-clause-inside
returns-then-stands_at-clause-inside c =
    place_within_held c.args.self.now.held.items c.args.name.now _ (returns-then-stands_at-clause-place c)

pub returns-clause-place : goal.returns-clause-place
returns-clause-place c =
    let s = c.args.self.now in
    let e = c.item-item.ensures in
    c.copied.ensures ∙ c.get.ensures.value ∙ index_finds_held s.held.items s.edges.index c.args.name.now c.requires.findable
    (ap (λ i. stands_at s.held.items i c.args.name.now) (sym e) ∙ sym c.stands_at.ensures ∙ c.if-stands_at.false)

pub returns-clause-inside : goal.returns-clause-inside
returns-clause-inside c = place_within_held c.args.self.now.held.items c.args.name.now _ (returns-clause-place c)
