use Rattle.std.proofs.Common.{rules, length, [], ◌∷◌, ◌≡◌, refl, ◌∙◌, ap, sym, subst, Some}
use Rattle.frp_gate.proofs.Seated.{takes_as, publishes_as, reads_as, after_take, after_publish, after_read}
use Rattle.frp_gate.proofs.Turns.{whole, nothing, if_ok, if_err}
use Rattle.frp_gate.proofs.turn.turn.Goals as goal
use Rattle.frp_gate.specs.Entries.{entry}
use Rattle.frp_gate.specs.Views.{at_turn, holding, published, seeing, waiting}
use Rattle.frp_gate.specs.Calls.{Enlists, Stops}

pub load-requires : goal.load-requires
load-requires g c =
    let r = c.requires.rests in
    let e = c.enter-ticket.ensures.turn r.0 r.1 in
    (search rules, search rules, takes_as g.M.Machine.history g.M.Machine.fixed c.args.gate.now.key _ _ _ (at_turn (waiting e.0 r.0)) [] e.2 refl r.2.0.2)

pub run-answer-requires-clause-held : goal.run-answer-requires-clause-held
run-answer-requires-clause-held g c =
    let r = c.requires.rests in
    let e = c.enter-ticket.ensures.turn r.0 r.1 in
    let t = after_take g.M.Machine.history g.M.Machine.fixed _ _ c.load.result (at_turn (waiting e.0 r.0)) e.2 c.load.ensures.2 in
    (t.0, ap (λ m. m.1) t.1)

pub store-requires : goal.store-requires
store-requires g c =
    let L = g.M.Machine.history in
    let F = g.M.Machine.fixed in
    let r = c.requires.rests in
    let d = r.0 in
    let e = c.enter-ticket.ensures.turn d r.1 in
    let d1 = at_turn (waiting e.0 d) in
    let t = after_take L F _ _ c.load.result d1 e.2 c.load.ensures.2 in
    let y = t.0 in
    let d2 = holding y d1 in
    let u = if_ok _ _ _ c.in-Ok.is c.run-answer.ensures.entered y (ap (λ m. m.1) t.1) in
    let z = u.0 in
    let n = c.run-answer.result.1 in
    let held : c.run-answer.new.seat.me ≡ (Some d2, (0, z) ∷ []) = u.1 ∙ ap (λ m. (m.0, (0, z) ∷ [])) t.1 in
    (search rules, search rules, publishes_as L F c.args.gate.now.key _ _ _ d2 n z (entry c.args.number c.args.cmd c.in-Ok.reply) held refl u.2.0 (sym r.2.3) u.2.2)

pub leave-requires-clause-held : goal.leave-requires-clause-held
leave-requires-clause-held g c =
    let L = g.M.Machine.history in
    let F = g.M.Machine.fixed in
    let r = c.requires.rests in
    let d = r.0 in
    let e = c.enter-ticket.ensures.turn d r.1 in
    let d1 = at_turn (waiting e.0 d) in
    let t = after_take L F _ _ c.load.result d1 e.2 c.load.ensures.2 in
    let y = t.0 in
    let d2 = holding y d1 in
    let u = if_ok _ _ _ c.in-Ok.is c.run-answer.ensures.entered y (ap (λ m. m.1) t.1) in
    let z = u.0 in
    let n = c.run-answer.result.1 in
    let held : c.run-answer.new.seat.me ≡ (Some d2, (0, z) ∷ []) = u.1 ∙ ap (λ m. (m.0, (0, z) ∷ [])) t.1 in
    let now = after_publish L F _ _ n d2 z held c.store.ensures.2 in
    let d3 = published z n d2 in
    (d3, z, now, refl, refl, refl, u.2.1 ∙ t.4, e.1)

pub load-length-requires : goal.load-length-requires
load-length-requires g c =
    let L = g.M.Machine.history in
    let F = g.M.Machine.fixed in
    let r = c.requires.rests in
    let d = r.0 in
    let e = c.enter-ticket.ensures.turn d r.1 in
    let d1 = at_turn (waiting e.0 d) in
    let t = after_take L F _ _ c.load.result d1 e.2 c.load.ensures.2 in
    let y = t.0 in
    let d2 = holding y d1 in
    let err = if_err _ _ _ c.in-Err.is c.run-answer.ensures.stopped in
    let u = err y (ap (λ m. m.1) t.1) in
    let z = u.0 in
    let held : c.run-answer.new.seat.me ≡ (Some d2, (0, z) ∷ []) = u.1 ∙ ap (λ m. (m.0, (0, z) ∷ [])) t.1 in
    (search rules, search rules, reads_as L F c.args.gate.now.key _ _ _ d2 ((0, z) ∷ []) held)

pub leave-requires-in-Err-clause-held : goal.leave-requires-in-Err-clause-held
leave-requires-in-Err-clause-held g c =
    let L = g.M.Machine.history in
    let F = g.M.Machine.fixed in
    let r = c.requires.rests in
    let d = r.0 in
    let e = c.enter-ticket.ensures.turn d r.1 in
    let d1 = at_turn (waiting e.0 d) in
    let t = after_take L F _ _ c.load.result d1 e.2 c.load.ensures.2 in
    let y = t.0 in
    let d2 = holding y d1 in
    let err = if_err _ _ _ c.in-Err.is c.run-answer.ensures.stopped in
    let u = err y (ap (λ m. m.1) t.1) in
    let z = u.0 in
    let held : c.run-answer.new.seat.me ≡ (Some d2, (0, z) ∷ []) = u.1 ∙ ap (λ m. (m.0, (0, z) ∷ [])) t.1 in
    let n = c.load-length.result in
    let now = after_read L F _ _ n d2 ((0, z) ∷ []) held c.load-length.ensures.2 in
    let d3 = seeing n d2 in
    (d3, z, now.0, refl, refl, u.2.0, u.2.1 ∙ t.4, e.1)

pub returns-in-Ok-clause-entered : goal.returns-in-Ok-clause-entered
returns-in-Ok-clause-entered g c =
    let L = g.M.Machine.history in
    let F = g.M.Machine.fixed in
    let r = c.requires.rests in
    let d = r.0 in
    let e = c.enter-ticket.ensures.turn d r.1 in
    let d1 = at_turn (waiting e.0 d) in
    let t = after_take L F _ _ c.load.result d1 e.2 c.load.ensures.2 in
    let y = t.0 in
    let d2 = holding y d1 in
    let u = if_ok _ _ _ c.in-Ok.is c.run-answer.ensures.entered y (ap (λ m. m.1) t.1) in
    let z = u.0 in
    let n = c.run-answer.result.1 in
    let held : c.run-answer.new.seat.me ≡ (Some d2, (0, z) ∷ []) = u.1 ∙ ap (λ m. (m.0, (0, z) ∷ [])) t.1 in
    let now = after_publish L F _ _ n d2 z held c.store.ensures.2 in
    let d3 = published z n d2 in
    let left = c.leave.ensures.left d3 z now in
    let en = entry c.args.number c.args.cmd c.in-Ok.reply in
    subst (λ m. Enlists L en n m c.leave.new.seat.me) (sym r.1) (subst (λ m. Enlists L en n (Some d, []) m) (sym left)
    (whole L F d e.0 n y z en r.2.0 (sym r.2.3) t.2 t.3 u.2.0 u.2.2))

pub returns-in-Err-clause-stopped : goal.returns-in-Err-clause-stopped
returns-in-Err-clause-stopped g c =
    let L = g.M.Machine.history in
    let F = g.M.Machine.fixed in
    let r = c.requires.rests in
    let d = r.0 in
    let e = c.enter-ticket.ensures.turn d r.1 in
    let d1 = at_turn (waiting e.0 d) in
    let t = after_take L F _ _ c.load.result d1 e.2 c.load.ensures.2 in
    let y = t.0 in
    let d2 = holding y d1 in
    let err = if_err _ _ _ c.in-Err.is c.run-answer.ensures.stopped in
    let u = err y (ap (λ m. m.1) t.1) in
    let z = u.0 in
    let held : c.run-answer.new.seat.me ≡ (Some d2, (0, z) ∷ []) = u.1 ∙ ap (λ m. (m.0, (0, z) ∷ [])) t.1 in
    let n = c.load-length.result in
    let now = after_read L F _ _ n d2 ((0, z) ∷ []) held c.load-length.ensures.2 in
    let d3 = seeing n d2 in
    let left = c.leave-in-Err.ensures.left d3 z now.0 in
    let may = g.M.Machine.may_stop c.in-Err.stop.0 in
    let same : n ≡ length (L y) = now.2 refl in
    subst (λ m. Stops L F may n m c.leave-in-Err.new.seat.me) (sym r.1)
    (subst (λ m. Stops L F may n (Some d, []) m) (sym left)
    (nothing L F d e.0 n y may r.2.0 t.2 t.4 now.1 (subst (λ k. may (F y) k) (sym same) u.2.2)))
