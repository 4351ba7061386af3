use Rattle.std.proofs.Common.{◌≡◌, ◌++◌, drop, map}
use Rattle.frp_type.specs.Closed.{kept_number, renumbered_vars}
use Rattle.frp_type.proofs.closing.+closed.Given as goal

abbrev pub invariant-each-loop-e : goal.invariant-each-loop-e
invariant-each-loop-e l = l.all ++ map (renumbered_vars (kept_number l.n l.kept)) (drop l.e-index l.es) ≡ map (renumbered_vars (kept_number l.n l.kept)) l.fn.es
