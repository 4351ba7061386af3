use Rattle.frp_moment.proofs.Steps as steps
use Rattle.frp_moment.proofs.laws.end_settles.Goals as goal

pub returns : goal.returns
returns c = steps.end_settles
