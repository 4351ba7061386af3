use Rattle.frp_type.proofs.TypedFiles.{faultless}
use Rattle.frp_type.proofs.laws.faultless_is_typed.Goals as goal

pub returns : goal.returns
returns c = faultless
