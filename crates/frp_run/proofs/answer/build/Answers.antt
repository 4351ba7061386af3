use Rattle.std.proofs.Math.Path.{transport}
use Rattle.frp_graph.specs.Limits.{program_limits}
use Rattle.frp_history.specs.Legal.{IsLegal}
use Rattle.frp_run.proofs.answer.build.Goals as goal

pub returns : goal.returns
returns c = (c.in_ok-core.core.trace, transport (λ i. IsLegal (c.in_ok-core.ensures.program i) program_limits (c.in_ok-core.ensures.empty i) c.in_ok-core.core.trace) c.trace-trace.ensures.legal)
