use Rattle.frp_audit.proofs.NoRoom as full
use Rattle.frp_audit.proofs.laws.full_excludes.Goals as goal

pub returns : goal.returns
returns c = full.full_excludes
