use Rattle.frp_history.proofs.Legals as legals
use Rattle.frp_history.proofs.laws.legal_before.Goals as goal

pub returns : goal.returns
returns c = legals.legal_before
