use Rattle.std.proofs.Common.{sym}
use Rattle.frp_expr.proofs.Places.{past_functions}
use Rattle.frp_expr.proofs.names.fun_number.Goals as goal

pub returns-in-None : goal.returns-in-None
returns-in-None c = sym (past_functions c.args.name.now c.args.funs.now c.in-None.ensures)
