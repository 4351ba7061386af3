use Rattle.frp_expr.proofs.TypingAgrees.{agrees}
use Rattle.frp_expr.proofs.laws.typing_agrees.Goals as goal

pub returns : goal.returns
returns c = agrees
