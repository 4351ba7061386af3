use Rattle.std.proofs.Common.{◌∙◌, sym, ap, subst}
use Rattle.frp_store.specs.declared.edges.Edges.{Edges}
use Rattle.frp_store.specs.declared.tables.Tables.{Tables}
use Rattle.frp_store.specs.Edges.{IsRoomier}
use Rattle.frp_store.specs.Lists.{lists_of}
use Rattle.frp_store.proofs.Keeping.{findable_now}
use Rattle.frp_store.proofs.Rewiring.{tables_roomier}
use Rattle.frp_store.proofs.tables.Tables.make_room.Goals as goal

pub reserve_ends-requires-clause-findable : goal.reserve_ends-requires-clause-findable
reserve_ends-requires-clause-findable c = let s = c.args.self.now in findable_now s.changes.items (lists_of s) s.edges c.requires.kept

pub returns-in_err-reserve_ends-clause-kept : goal.returns-in_err-reserve_ends-clause-kept
returns-in_err-reserve_ends-clause-kept c =
    let r = c.in_err-reserve_ends.ensures in
    tables_roomier c.args.self.now c.reserve_ends.new.self (ap (λ (t : Tables). t.changes.items) r.rest) (ap lists_of r.rest) c.requires.kept r.roomier
    (ap (λ (e : Edges). e.wanting.items) r.edges) (ap (λ (e : Edges). e.index) r.edges)

pub returns-in_err-reserve_one-clause-kept : goal.returns-in_err-reserve_one-clause-kept
returns-in_err-reserve_one-clause-kept c =
    let r = c.in_ok-reserve_ends.ensures in
    let o = c.in_err-reserve_one.ensures in
    let s = c.args.self.now in
    tables_roomier s c.reserve_one.new.self (o.changes ∙ ap (λ (t : Tables). t.changes.items) r.rest) (o.lists ∙ ap lists_of r.rest) c.requires.kept
    (subst (IsRoomier s.edges.lists.items) (sym o.ends) r.roomier) (o.wanting ∙ ap (λ (e : Edges). e.wanting.items) r.edges) (o.index ∙ ap (λ (e : Edges). e.index) r.edges)

pub returns-clause-kept : goal.returns-clause-kept
returns-clause-kept c =
    let r = c.in_ok-reserve_ends.ensures in
    let o = c.in_ok-reserve_one.ensures in
    let s = c.args.self.now in
    tables_roomier s c.reserve_one.new.self (o.changes ∙ ap (λ (t : Tables). t.changes.items) r.rest) (o.lists ∙ ap lists_of r.rest) c.requires.kept
    (subst (IsRoomier s.edges.lists.items) (sym o.ends) r.roomier) (o.wanting ∙ ap (λ (e : Edges). e.wanting.items) r.edges) (o.index ∙ ap (λ (e : Edges). e.index) r.edges)
