use Rattle.std.proofs.Common.{◌≡◌, take}
use Rattle.frp_expr.specs.Scope.{place_of, fun_names}
use Rattle.frp_expr.proofs.names.fun_named.Given as goal

abbrev pub invariant-loop-i : goal.invariant-loop-i
invariant-loop-i l = place_of l.name (fun_names (take l.i l.funs)) ≡ l.found
