use Rattle.frp_moment.proofs.Steps as steps
use Rattle.frp_moment.proofs.laws.evidence_shows.Goals as goal

pub returns : goal.returns
returns c = steps.evidence_shows
