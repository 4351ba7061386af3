use Rattle.frp_moment.proofs.Steps as steps
use Rattle.frp_moment.proofs.laws.loosening_keeps.Goals as goal

pub returns : goal.returns
returns c = steps.loosening_keeps
