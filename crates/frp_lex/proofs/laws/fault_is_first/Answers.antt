use Rattle.frp_lex.proofs.Written.{fault_is_first_lem}
use Rattle.frp_lex.proofs.laws.fault_is_first.Goals as goal

pub returns : goal.returns
returns c = fault_is_first_lem
