use Rattle.frp_audit.proofs.OneTrace as trace
use Rattle.frp_audit.proofs.laws.one_trace.Goals as goal

pub returns : goal.returns
returns c = trace.one_trace
