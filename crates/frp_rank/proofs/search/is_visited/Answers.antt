use Rattle.std.proofs.Common.{◌≡◌, false, get_or, arith}
use Rattle.std.proofs.lemmas.Bool.Decides.{nat_tests}
use Rattle.frp_rank.specs.Search.{has_visit}
use Rattle.std.proofs.lemmas.Option.{get_or_from_slice_get}
use Rattle.frp_rank.proofs.Visiting.{slot_tells, slot_past}
use Rattle.frp_rank.proofs.search.is_visited.Goals as goal

pub returns-then-slot-visits : goal.returns-then-slot-visits
returns-then-slot-visits c =
    let e : get_or c.args.slots.now.items c.args.place 0 ≡ c.get-slot.result.now = get_or_from_slice_get c.args.slots.now.items c.args.place _ 0 c.get-slot.ensures in
    let told = slot_tells c.args.slots.now.items c.args.visits.now c.args.place c.requires.slot (omega arith) in
    rw e at told

pub returns-else-slot-visits : goal.returns-else-slot-visits
returns-else-slot-visits c =
    let e : get_or c.args.slots.now.items c.args.place 0 ≡ c.get-slot.result.now = get_or_from_slice_get c.args.slots.now.items c.args.place _ 0 c.get-slot.ensures in
    let none : has_visit c.args.visits.now c.args.place ≡ false = slot_past c.args.slots.now.items c.args.visits.now c.args.place c.requires.slot (omega arith) in
    grind (arith, nat_tests, none)
