use Rattle.std.proofs.Common.{◌≡◌, drop}
use Rattle.frp_graph.specs.Trace.{fact_in}
use Rattle.frp_listen.proofs.passing.occurrence.Given as goal

abbrev pub invariant-loop-fact : goal.invariant-loop-fact
invariant-loop-fact l = fact_in (drop l.fact-index l.moment.fired) l.node ≡ fact_in l.fn.moment.fired l.node
