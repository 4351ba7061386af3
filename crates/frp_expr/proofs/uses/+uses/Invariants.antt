use Rattle.std.proofs.Common.{◌≡◌, drop, map}
use Rattle.frp_expr.specs.Uses.{noting, each_noted}
use Rattle.frp_expr.proofs.uses.+uses.Given as goal

abbrev pub invariant-note_all-loop-e : goal.invariant-note_all-loop-e
invariant-note_all-loop-e l = each_noted (map (noting l.n) (drop l.e-index l.es)) l.used ≡ each_noted (map (noting l.n) l.es) l.fn.used
