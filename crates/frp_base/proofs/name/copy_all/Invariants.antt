use Rattle.std.proofs.Common.{◌≡◌, take}
use Rattle.frp_base.proofs.name.copy_all.Given as goal

abbrev pub invariant-loop-stage : goal.invariant-loop-stage
invariant-loop-stage l = l.copies ≡ take l.stage-index l.stages
