use Rattle.std.proofs.Common.{◌≡◌, take}
use Rattle.frp_expr.specs.Scope.{place_of}
use Rattle.frp_expr.proofs.names.place_among.Given as goal

abbrev pub invariant-loop-i : goal.invariant-loop-i
invariant-loop-i l = place_of l.name (take l.i l.names) ≡ l.found
