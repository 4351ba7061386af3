use Rattle.frp_moment.proofs.Steps as steps
use Rattle.frp_moment.proofs.laws.taking_keeps.Goals as goal

pub returns : goal.returns
returns c = steps.taking_keeps
