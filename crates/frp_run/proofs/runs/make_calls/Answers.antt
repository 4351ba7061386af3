use Rattle.std.proofs.Common.{◌+◌, ◌≤◌, length, ap, arith}
use Rattle.frp_run.specs.Runs.{join_call, send_call, first_script, HasRoomFor}
use Rattle.frp_run.proofs.Sending.{few_keys, room_after, is_session}
use Rattle.frp_run.proofs.runs.make_calls.Goals as goal

pub join_all-requires : goal.join_all-requires
join_all-requires c = let z = ap length c.requires.empty in let e = c.requires.entries in omega arith

pub send_scripts-requires : goal.send_scripts-requires
send_scripts-requires c =
    let z = ap length c.requires.empty in
    let e = c.requires.entries in
    room_after join_call c.args.core.now c.join_all.new.core c.args.listens.now (length (first_script c.args.scripts.now)) (omega arith) c.in_ok-keys.ensures.answered

pub leave_all-requires : goal.leave_all-requires
leave_all-requires c =
    let z = ap length c.requires.empty in
    let e = c.requires.entries in
    let few : length c.in_ok-keys.keys ≤ length c.args.listens.now = few_keys c.args.core.now c.join_all.new.core c.args.listens.now c.in_ok-keys.keys c.in_ok-keys.ensures in
    let all : HasRoomFor (length c.args.listens.now) c.send_scripts.new.core =
    room_after send_call c.join_all.new.core c.send_scripts.new.core (first_script c.args.scripts.now) (length c.args.listens.now)
    (room_after join_call c.args.core.now c.join_all.new.core c.args.listens.now (length (first_script c.args.scripts.now) + length c.args.listens.now) (omega arith) c.in_ok-keys.ensures.answered)
    c.in_ok-send_scripts.ensures in
    let s = ap length c.as_slice.ensures in
    omega arith

pub returns-clause-session : goal.returns-clause-session
returns-clause-session c =
    is_session c.args.core.now c.join_all.new.core c.send_scripts.new.core c.leave_all.new.core c.args.listens.now c.in_ok-keys.keys c.args.scripts.now c.requires.empty c.requires.senders
    c.in_ok-keys.ensures c.in_ok-send_scripts.ensures (rw c.as_slice.ensures at c.in_ok-leave_all.ensures)
