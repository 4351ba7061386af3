use Rattle.std.proofs.Common.{◌≡◌, ◌++◌, drop, map}
use Rattle.frp_expr.specs.Eval.{eval, each_value}
use Rattle.frp_expr.proofs.value.+value.Given as goal

abbrev pub invariant-values-loop-e : goal.invariant-values-loop-e
invariant-values-loop-e l = record {
  so_far : l.all ++ each_value (map eval (drop l.e-index l.es)) (l.env ++ l.bound) ≡ each_value (map eval l.fn.es) (l.fn.env ++ l.fn.bound);
  bound : l.bound ≡ l.fn.bound;
}
