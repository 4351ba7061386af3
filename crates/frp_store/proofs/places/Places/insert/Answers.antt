use Rattle.std.proofs.Common.{sym, ap, ◌∙◌, subst, arith}
use Rattle.frp_store.specs.Places.{PlaceList, IsRising}
use Rattle.frp_store.proofs.Rising.{counted_within, inserted_is, room_left, still_rising, rising_with, with_old}
use Rattle.frp_store.proofs.places.Places.insert.Goals as goal

pub insert-requires : goal.insert-requires
insert-requires c =
    let ps = c.self.inside.places in
    counted_within c.args.place _ _ ps.items c.args.self.now.items (ap (λ (v : PlaceList). v.items) c.self.view_is) c.count_below-number.ensures ps.ok.0

pub unreachable-requires : goal.unreachable-requires
unreachable-requires c =
    let ps = c.self.inside.places in
    let room = room_left c.args.place _ ps.len ps.cap c.args.self.now.room ps.items c.args.self.now.items (ap (λ (v : PlaceList). v.items) c.self.view_is)
    (ap (λ (v : PlaceList). v.room) c.self.view_is) c.count_below-number.ensures (sym c.stands_at.ensures ∙ c.if-not-stands_at.true) c.requires.room ps.ok.0 in
    let full = c.in-Err.ensures.full in
    absurd (omega (arith, room, full))

pub returns-in-Ok-clause-items : goal.returns-in-Ok-clause-items
returns-in-Ok-clause-items c =
    inserted_is c.self.inside.places.items _ _ c.count_below-number.result c.args.self.now.items (ap (λ (v : PlaceList). v.items) c.self.view_is) c.count_below-number.ensures
    (sym c.stands_at.ensures ∙ c.if-not-stands_at.true) c.in-Ok.ensures.items

pub invariant_of-self : goal.invariant_of-self
invariant_of-self c =
    let v = ap (λ (v : PlaceList). v.items) c.self.view_is in
    still_rising _ _
    (inserted_is c.self.inside.places.items _ _ c.count_below-number.result c.args.self.now.items v c.count_below-number.ensures
    (sym c.stands_at.ensures ∙ c.if-not-stands_at.true) c.in-Ok.ensures.items)
    (rising_with c.args.place c.args.self.now.items (subst IsRising v c.self.invariant))

pub returns-in-Ok-clause-room : goal.returns-in-Ok-clause-room
returns-in-Ok-clause-room c =
    let ps = c.self.inside.places in
    let room = room_left c.args.place _ ps.len ps.cap c.args.self.now.room ps.items c.args.self.now.items (ap (λ (v : PlaceList). v.items) c.self.view_is)
    (ap (λ (v : PlaceList). v.room) c.self.view_is) c.count_below-number.ensures (sym c.stands_at.ensures ∙ c.if-not-stands_at.true) c.requires.room ps.ok.0 in
    (c.in-Ok.ensures.in_place room).1.0 ∙ ap (λ (v : PlaceList). v.room) c.self.view_is

pub returns-else-not-stands_at-clause-items : goal.returns-else-not-stands_at-clause-items
returns-else-not-stands_at-clause-items c =
    sym (with_old c.args.place c.count_below-number.result c.args.self.now.items c.count_below-number.ensures (sym c.stands_at.ensures ∙ c.if-not-stands_at.false))
