use Rattle.std.proofs.Common.{◌≡◌, ◌++◌, drop}
use Rattle.frp_base.specs.Name.{more_stages, name_text}
use Rattle.frp_base.proofs.name.Name.write.Given as goal

abbrev pub invariant-loop-stage : goal.invariant-loop-stage
invariant-loop-stage l = l.out ++ more_stages (drop l.stage-index l.stage-items) ≡ l.fn.out ++ name_text l.fn.self
