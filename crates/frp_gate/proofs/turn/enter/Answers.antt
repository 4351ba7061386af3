use Rattle.std.proofs.Common.{rules, [], ◌≡◌, refl, ◌∙◌, Some}
use Rattle.frp_gate.proofs.Seated.{draws_as, looks_as, after_draw}
use Rattle.frp_gate.proofs.turn.enter.Goals as goal
use Rattle.frp_gate.specs.Views.{waiting}

pub fetch_add-ticket-requires : goal.fetch_add-ticket-requires
fetch_add-ticket-requires g c = let r = c.requires.rests.1 in
    (search rules, search rules, draws_as g.M.Machine.history g.M.Machine.fixed c.args.gate.now.key _ _ _ r.0 [] r.1 r.2.0 r.2.1 r.2.2)

pub load-serving-requires : goal.load-serving-requires
load-serving-requires g c =
    let r = c.requires.rests.1 in
    let a = after_draw g.M.Machine.history g.M.Machine.fixed _ _ _ r.0 [] r.1 c.fetch_add-ticket.ensures.2 in
    let is : c.loop.seat.me ≡ (Some (waiting a.0 r.0), []) = c.loop.invariant.1 ∙ a.2 in
    (search rules, search rules, looks_as g.M.Machine.history g.M.Machine.fixed c.args.gate.now.key _ _ _ (waiting a.0 r.0) [] is refl)
