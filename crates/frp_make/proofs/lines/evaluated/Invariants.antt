use Rattle.std.proofs.Common.{◌≡◌, take, map}
use Rattle.frp_expr.specs.declared.expr.Expr.{Expr}
use Rattle.frp_expr.specs.Eval.{eval}
use Rattle.frp_make.proofs.lines.evaluated.Given as goal

abbrev pub invariant-loop-e : goal.invariant-loop-e
invariant-loop-e l = l.results ≡ map (λ (e : Expr). eval e l.values) (take l.e-index l.es)
