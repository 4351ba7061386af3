use Rattle.std.proofs.Common.{Some, subst}
use Rattle.std.specs.BTreeMap.{Updates}
use Rattle.frp_base.specs.Name.{name_cmp}
use Rattle.frp_store.specs.Edges.{HasEntered}
use Rattle.frp_store.proofs.Indexing.{entered_there, entered_not}
use Rattle.frp_store.proofs.tables.Tables.enter.Goals as goal

pub returns-in_ok-insert-clause-entered : goal.returns-in_ok-insert-clause-entered
returns-in_ok-insert-clause-entered c =
    let s = c.args.self.now in
    let n = c.args.name.now in
    subst (HasEntered s.edges.index c.insert.new.self n) c.len-place.ensures
    (entered_there s.edges.index c.insert.new.self n c.len-place.result c.item.result c.item.ensures c.if-item-place.true
    (subst (λ m. Updates name_cmp s.edges.index c.insert.new.self m (Some c.len-place.result)) c.in_ok-copy.ensures c.in_ok-insert.ensures.updates))

pub returns-else-item-place-clause-entered : goal.returns-else-item-place-clause-entered
returns-else-item-place-clause-entered c =
    let s = c.args.self.now in
    subst (HasEntered s.edges.index s.edges.index c.args.name.now) c.len-place.ensures
    (entered_not s.edges.index c.args.name.now c.len-place.result c.item.result c.item.ensures c.if-item-place.false c.requires.new)
