use Rattle.frp_gate.specs.Passes.{IsPassOf}
use Rattle.frp_gate_tests.proofs.room.call_all.Given as goal

abbrev pub invariant-loop-cmd : goal.invariant-loop-cmd
invariant-loop-cmd g l = IsPassOf l.fn.room l.pass
