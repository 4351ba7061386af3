use Rattle.std.proofs.Common.{◌≡◌, drop}
use Rattle.frp_graph.specs.Trace.{fact_in}
use Rattle.frp_core.proofs.windows.fact_of.Given as goal

abbrev pub invariant-loop-fact : goal.invariant-loop-fact
invariant-loop-fact l = fact_in (drop l.fact-index l.facts) l.name ≡ fact_in l.fn.facts l.name
