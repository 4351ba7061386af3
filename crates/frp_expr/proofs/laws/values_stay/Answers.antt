use Rattle.frp_expr.proofs.ValuesStay.{stays}
use Rattle.frp_expr.proofs.laws.values_stay.Goals as goal

pub returns : goal.returns
returns c = λ few many sigs v x more. stays few many sigs more v x
