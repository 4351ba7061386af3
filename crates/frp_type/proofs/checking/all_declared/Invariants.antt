use Rattle.std.proofs.Common.{◌≤◌, drop, length}
use Rattle.frp_type.specs.States.{Left}
use Rattle.frp_type.proofs.checking.all_declared.Given as goal

abbrev pub invariant-loop-d : goal.invariant-loop-d
invariant-loop-d l = Left l.state (drop l.d-index l.decls) l.decls × ((length l.state.codes ≤ l.d-index) × (length l.state.scope.funs ≤ l.d-index))
