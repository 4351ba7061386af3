use Rattle.frp_run.specs.Runs.{leave_call}
use Rattle.frp_run.proofs.Sending.{answered_at, room_for_one}
use Rattle.frp_run.proofs.runs.leave_all.Goals as goal

pub leave-requires : goal.leave-requires
leave-requires c =
    room_for_one leave_call c.args.core.now c.loop-key.core c.args.keys.now c.loop-key.key-index c.loop-key-test.true c.requires c.loop-key.invariant

pub loop-key-preserved : goal.loop-key-preserved
loop-key-preserved c =
    answered_at leave_call c.args.core.now c.loop-key.core c.leave.new.core c.args.keys.now c.loop-key.key-index _
    c.loop-key-test.true c.loop-key.invariant c.in_ok-leave.ensures.ok c.in_ok-leave.ensures.same
