use Rattle.std.proofs.Common.{◌≡◌, take}
use Rattle.frp_expr.specs.Scope.{place_of, names_of}
use Rattle.frp_expr.proofs.names.place_of.Given as goal

abbrev pub invariant-loop-i : goal.invariant-loop-i
invariant-loop-i l = place_of l.name (names_of (take l.i l.names)) ≡ l.found
