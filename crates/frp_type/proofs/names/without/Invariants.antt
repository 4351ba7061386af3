use Rattle.std.proofs.Common.{◌≡◌, ◌++◌, drop, filter}
use Rattle.std.specs.Prelude.{◌==◌, not}
use Rattle.frp_type.proofs.names.without.Given as goal

abbrev pub invariant-loop-l : goal.invariant-loop-l
invariant-loop-l l = l.others ++ filter (λ m. not (m.position == l.position)) (drop l.l-index l.loops) ≡ filter (λ m. not (m.position == l.position)) l.loops
