use Rattle.frp_audit.proofs.NoEnd as end
use Rattle.frp_audit.proofs.laws.endless_excludes.Goals as goal

pub returns : goal.returns
returns c = end.endless_excludes
