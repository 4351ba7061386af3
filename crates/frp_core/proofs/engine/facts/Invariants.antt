use Rattle.std.proofs.Common.{◌≡◌, ◌++◌, drop}
use Rattle.frp_core.specs.Engine.{facts_of}
use Rattle.frp_core.proofs.engine.facts.Given as goal

abbrev pub invariant-loop-i : goal.invariant-loop-i
invariant-loop-i l = l.fired ++ facts_of (drop l.i l.nodes) (drop l.i l.occs) ≡ facts_of l.fn.nodes l.fn.occs
