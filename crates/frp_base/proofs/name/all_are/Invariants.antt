use Rattle.std.proofs.Common.{◌≡◌, take}
use Rattle.frp_base.proofs.name.all_are.Given as goal

abbrev pub invariant-loop-i : goal.invariant-loop-i
invariant-loop-i l = take l.i l.stages ≡ take l.i l.others
