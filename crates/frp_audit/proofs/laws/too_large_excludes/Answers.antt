use Rattle.frp_audit.proofs.TooMany as many
use Rattle.frp_audit.proofs.laws.too_large_excludes.Goals as goal

pub returns : goal.returns
returns c = many.too_large_excludes
