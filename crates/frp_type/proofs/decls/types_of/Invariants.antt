use Rattle.std.proofs.Common.{◌≡◌, ◌++◌, drop}
use Rattle.frp_expr.specs.Scope.{types_of}
use Rattle.frp_type.proofs.decls.types_of.Given as goal

abbrev pub invariant-loop-entry : goal.invariant-loop-entry
invariant-loop-entry l = l.types ++ types_of (drop l.entry-index l.names) ≡ types_of l.fn.names
