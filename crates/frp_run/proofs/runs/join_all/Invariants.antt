use Rattle.std.proofs.Common.{take}
use Rattle.frp_run.specs.Runs.{HaveJoined}
use Rattle.frp_run.proofs.runs.join_all.Given as goal

abbrev pub invariant-loop-node : goal.invariant-loop-node
invariant-loop-node l = HaveJoined l.fn.core l.core (take l.node-index l.nodes) l.keys
