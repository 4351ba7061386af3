use Rattle.frp_sugar.proofs.CoreFiles.{core_stays}
use Rattle.frp_sugar.proofs.laws.core_stays.Goals as goal

pub returns : goal.returns
returns c = core_stays
