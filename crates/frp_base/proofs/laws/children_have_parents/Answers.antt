use Rattle.frp_base.proofs.TimeLemmas as times
use Rattle.frp_base.proofs.laws.children_have_parents.Goals as goal

pub returns : goal.returns
returns c = times.children_have_parents
