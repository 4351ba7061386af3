use Rattle.frp_sugar.proofs.CoreFiles.{expanded_core}
use Rattle.frp_sugar.proofs.laws.expanded_is_core.Goals as goal

pub returns : goal.returns
returns c = expanded_core
