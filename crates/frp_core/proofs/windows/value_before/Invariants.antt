use Rattle.std.proofs.Common.{◌≡◌, drop}
use Rattle.std.specs.Option.{option_copied}
use Rattle.frp_graph.specs.Trace.{moments_before, value_from, value_after}
use Rattle.frp_core.proofs.windows.value_before.Given as goal

abbrev pub invariant-loop-moment : goal.invariant-loop-moment
invariant-loop-moment l = value_from (option_copied l.value) (moments_before l.time (drop l.moment-index l.trace)) l.name ≡ value_after (moments_before l.time l.fn.trace) l.name
