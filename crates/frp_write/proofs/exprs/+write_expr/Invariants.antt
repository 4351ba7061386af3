use Rattle.std.proofs.Common.{◌≡◌, ◌++◌, drop, map}
use Rattle.frp_write.specs.Writing.{run_together, expr_kinds}
use Rattle.frp_write.proofs.exprs.+write_expr.Given as goal

abbrev pub invariant-write_exprs-loop-expr : goal.invariant-write_exprs-loop-expr
invariant-write_exprs-loop-expr l = l.out ++ run_together (map expr_kinds (drop l.expr-index l.exprs)) ≡ l.fn.out ++ run_together (map expr_kinds l.fn.exprs)
