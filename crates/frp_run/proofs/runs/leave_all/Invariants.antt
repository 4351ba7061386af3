use Rattle.std.proofs.Common.{map, take}
use Rattle.frp_run.specs.Runs.{leave_call, HaveAnswered}
use Rattle.frp_run.proofs.runs.leave_all.Given as goal

abbrev pub invariant-loop-key : goal.invariant-loop-key
invariant-loop-key l = HaveAnswered l.fn.core l.core (map leave_call (take l.key-index l.keys))
