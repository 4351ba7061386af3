use Rattle.std.proofs.Common.{map, take}
use Rattle.frp_run.specs.Runs.{send_call, HaveAnswered}
use Rattle.frp_run.proofs.runs.send_all.Given as goal

abbrev pub invariant-loop-fact : goal.invariant-loop-fact
invariant-loop-fact l = HaveAnswered l.fn.core l.core (map send_call (take l.fact-index l.script))
