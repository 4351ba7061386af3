use Rattle.frp_run.specs.Runs.{send_call}
use Rattle.frp_run.proofs.Sending.{answered_more, room_for_one}
use Rattle.frp_run.proofs.runs.send_all.Goals as goal

pub send-requires : goal.send-requires
send-requires c =
    room_for_one send_call c.args.core.now c.loop-fact.core c.args.script.now c.loop-fact.fact-index c.loop-fact-test.true c.requires c.loop-fact.invariant

pub loop-fact-preserved : goal.loop-fact-preserved
loop-fact-preserved c =
    answered_more send_call c.args.core.now c.loop-fact.core c.send.new.core c.args.script.now c.loop-fact.fact-index c.fact-item.result
    c.loop-fact-test.true c.fact-item.is c.loop-fact.invariant c.in_ok-send.ensures.ok c.in_ok-send.ensures.same
