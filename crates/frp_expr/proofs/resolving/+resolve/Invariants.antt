use Rattle.std.proofs.Common.{◌≡◌, ◌++◌, drop, map}
use Rattle.frp_expr.specs.Scope.{names_of, fun_names}
use Rattle.frp_expr.specs.Raw.{resolve, each_resolved}
use Rattle.frp_expr.proofs.resolving.+resolve.Given as goal

abbrev pub invariant-each-loop-raw : goal.invariant-each-loop-raw
invariant-each-loop-raw l = record {
  so_far : l.all ++ each_resolved (map (resolve (fun_names l.scope.funs)) (drop l.raw-index l.parts)) (names_of l.scope.names ++ l.bound) ≡ each_resolved (map (resolve (fun_names l.scope.funs)) l.parts) (names_of l.scope.names ++ l.fn.bound);
  bound : l.bound ≡ l.fn.bound;
}
