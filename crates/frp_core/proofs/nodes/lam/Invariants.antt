use Rattle.std.proofs.Common.{◌≡◌, ◌++◌, map, drop}
use Rattle.std.specs.Prelude.{slice_index_or}
use Rattle.frp_expr.specs.Parts.{zero_val}
use Rattle.frp_core.proofs.nodes.lam.Given as goal

abbrev pub invariant-loop-position : goal.invariant-loop-position
invariant-loop-position l =
    l.kept ++ map (λ i. slice_index_or l.refs i zero_val) (drop l.position-index l.position-items) ≡ map (λ i. slice_index_or l.refs i zero_val) l.fn.f.kept
