use Rattle.std.proofs.Common.{◌≡◌, take}
use Rattle.frp_core.proofs.engine.code_on.Given as goal

abbrev pub invariant-loop-kept : goal.invariant-loop-kept
invariant-loop-kept l = l.values ≡ take l.kept-index l.kept-items
