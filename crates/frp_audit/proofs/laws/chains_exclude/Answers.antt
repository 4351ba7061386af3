use Rattle.frp_audit.proofs.Excluded as excluded
use Rattle.frp_audit.proofs.laws.chains_exclude.Goals as goal

pub returns : goal.returns
returns c = excluded.chains_exclude
