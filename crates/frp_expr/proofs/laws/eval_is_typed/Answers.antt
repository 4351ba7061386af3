use Rattle.frp_expr.proofs.TypedValues.{good}
use Rattle.frp_expr.proofs.laws.eval_is_typed.Goals as goal

pub returns : goal.returns
returns c = good
