use Rattle.std.proofs.Common.{take}
use Rattle.frp_crew.specs.Answers.{AreAnswers}
use Rattle.frp_crew.proofs.one_by_one.one_by_one.Given as goal

-- the answers on the items so far
abbrev pub invariant-loop-item : goal.invariant-loop-item
invariant-loop-item g l = AreAnswers g.F.Fn l.f (take l.item-index l.items) l.answers.items
