use Rattle.frp_history.proofs.Counts as counts
use Rattle.frp_history.proofs.laws.only_sends_have_moments.Goals as goal

pub returns : goal.returns
returns c = counts.only_sends_have_moments
