use Rattle.std.proofs.Common.{sym, ap, ◌∙◌, subst}
use Rattle.frp_store.specs.Places.{PlaceList, IsRising}
use Rattle.frp_store.proofs.Rising.{removed_is, still_rising, rising_without, without_new}
use Rattle.frp_store.proofs.places.Places.remove.Goals as goal

pub returns-then-stands_at-clause-items : goal.returns-then-stands_at-clause-items
returns-then-stands_at-clause-items c =
    removed_is c.self.inside.places.items _ c.args.place c.count_below-number.result c.args.self.now.items (ap (λ (v : PlaceList). v.items) c.self.view_is)
    c.count_below-number.ensures (sym c.stands_at.ensures ∙ c.if-stands_at.true) c.remove.ensures.items

pub invariant_of-self : goal.invariant_of-self
invariant_of-self c =
    let v = ap (λ (v : PlaceList). v.items) c.self.view_is in
    still_rising _ _
    (removed_is c.self.inside.places.items _ c.args.place c.count_below-number.result c.args.self.now.items v
    c.count_below-number.ensures (sym c.stands_at.ensures ∙ c.if-stands_at.true) c.remove.ensures.items)
    (rising_without c.args.place c.args.self.now.items (subst IsRising v c.self.invariant))

pub returns-else-stands_at-clause-items : goal.returns-else-stands_at-clause-items
returns-else-stands_at-clause-items c =
    sym (without_new c.args.place c.count_below-number.result c.args.self.now.items c.count_below-number.ensures (sym c.stands_at.ensures ∙ c.if-stands_at.false))
