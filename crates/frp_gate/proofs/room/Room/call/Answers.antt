use Rattle.std.proofs.Common.{◌∙◌}
use Rattle.frp_gate.proofs.Turns.{if_ok, if_err, rested, rests_again, began_still, shows_entered, shows_stopped}
use Rattle.frp_gate.proofs.room.Room.call.Goals as goal

pub turn-answer-requires-clause-rests : goal.turn-answer-requires-clause-rests
turn-answer-requires-clause-rests g c = rested _ _ c.args.pass.rests

pub invariant_of-result : goal.invariant_of-result
invariant_of-result g c =
    let r = rested _ _ c.args.pass.rests in
    let u = if_ok _ _ _ c.in-Ok.is c.turn-answer.ensures.entered r.0 r.1 in
    record { rests = rests_again _ _ _ r u.0 u.1 u.2 }

pub invariant_of-result-in-Err : goal.invariant_of-result-in-Err
invariant_of-result-in-Err g c =
    let r = rested _ _ c.args.pass.rests in
    let u = if_err _ _ _ c.in-Err.is c.turn-answer.ensures.stopped r.0 r.1 in
    record { rests = rests_again _ _ _ r u.0 u.1 u.2 }

pub returns-in-Ok-clause-pass : goal.returns-in-Ok-clause-pass
returns-in-Ok-clause-pass g c =
    let r = rested _ _ c.args.pass.rests in
    let u = if_ok _ _ _ c.in-Ok.is c.turn-answer.ensures.entered r.0 r.1 in
    (c.turn-answer.ensures.seat ∙ c.requires.pass.0, began_still _ _ _ _ r u.0 u.1 u.2 c.requires.pass.1)

pub returns-in-Ok-clause-above : goal.returns-in-Ok-clause-above
returns-in-Ok-clause-above g c =
    let r = rested _ _ c.args.pass.rests in
    (shows_entered g.M.Machine.history g.M.Machine.fixed _ _ r.0 _ _ r.1 (if_ok _ _ _ c.in-Ok.is c.turn-answer.ensures.entered)).0

pub returns-in-Ok-clause-place : goal.returns-in-Ok-clause-place
returns-in-Ok-clause-place g c =
    let r = rested _ _ c.args.pass.rests in
    (shows_entered g.M.Machine.history g.M.Machine.fixed _ _ r.0 _ _ r.1 (if_ok _ _ _ c.in-Ok.is c.turn-answer.ensures.entered)).1

pub returns-in-Ok-clause-entered : goal.returns-in-Ok-clause-entered
returns-in-Ok-clause-entered g c =
    let r = rested _ _ c.args.pass.rests in
    (shows_entered g.M.Machine.history g.M.Machine.fixed _ _ r.0 _ _ r.1 (if_ok _ _ _ c.in-Ok.is c.turn-answer.ensures.entered)).2

pub returns-in-Err-clause-pass : goal.returns-in-Err-clause-pass
returns-in-Err-clause-pass g c =
    let r = rested _ _ c.args.pass.rests in
    let u = if_err _ _ _ c.in-Err.is c.turn-answer.ensures.stopped r.0 r.1 in
    (c.turn-answer.ensures.seat ∙ c.requires.pass.0, began_still _ _ _ _ r u.0 u.1 u.2 c.requires.pass.1)

pub returns-in-Err-clause-unentered : goal.returns-in-Err-clause-unentered
returns-in-Err-clause-unentered g c =
    let r = rested _ _ c.args.pass.rests in
    let u = if_err _ _ _ c.in-Err.is c.turn-answer.ensures.stopped in
    (shows_stopped g.M.Machine.history g.M.Machine.fixed _ _ r.0 (g.M.Machine.may_stop c.in-Err.stop) _ _ r.1 c.requires.pass.1 u).1

pub returns-in-Err-clause-saw : goal.returns-in-Err-clause-saw
returns-in-Err-clause-saw g c =
    let r = rested _ _ c.args.pass.rests in
    let u = if_err _ _ _ c.in-Err.is c.turn-answer.ensures.stopped in
    (shows_stopped g.M.Machine.history g.M.Machine.fixed _ _ r.0 (g.M.Machine.may_stop c.in-Err.stop) _ _ r.1 c.requires.pass.1 u).0

pub returns-in-Err-clause-allowed : goal.returns-in-Err-clause-allowed
returns-in-Err-clause-allowed g c =
    let r = rested _ _ c.args.pass.rests in
    let u = if_err _ _ _ c.in-Err.is c.turn-answer.ensures.stopped in
    (shows_stopped g.M.Machine.history g.M.Machine.fixed _ _ r.0 (g.M.Machine.may_stop c.in-Err.stop) _ _ r.1 c.requires.pass.1 u).2
