use Rattle.std.proofs.Common.{◌∙◌, ◌<◌, sym, ap, subst}
use Rattle.std.specs.Prelude.{IfSome}
use Rattle.frp_store.specs.Edges.{joined, HasRoomFor}
use Rattle.frp_store.proofs.Rewiring.{left_length, left_room}
use Rattle.frp_store.proofs.tables.Tables.turn.Goals as goal

pub join-requires-clause-inside : goal.join-requires-clause-inside
join-requires-clause-inside c =
    subst (λ n. IfSome c.args.to (λ e. e < n))
    (left_length c.unlinked-left.result c.args.place c.args.self.now.edges.lists.items c.leave.new.self.lists.items _ c.leave.ensures.lists c.requires.count) c.requires.to

pub join-requires-clause-room : goal.join-requires-clause-room
join-requires-clause-room c =
    let s = c.args.self.now in
    subst (HasRoomFor c.args.to c.args.place)
    (sym (left_room s.held.items c.args.place c.args.to c.target-from.result c.unlinked-left.result s.edges.lists.items c.leave.new.self.lists.items c.target-from.ensures c.unlinked-left.ensures c.leave.ensures.lists))
    c.requires.room

pub returns-clause-lists : goal.returns-clause-lists
returns-clause-lists c =
    let s = c.args.self.now in
    c.join.ensures.lists
    ∙ ap (joined c.args.to c.args.place)
    (left_room s.held.items c.args.place c.args.to c.target-from.result c.unlinked-left.result s.edges.lists.items c.leave.new.self.lists.items c.target-from.ensures c.unlinked-left.ensures c.leave.ensures.lists)
