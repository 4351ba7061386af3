use Rattle.std.proofs.Common.{◌≡◌, ℕ, take, map}
use Rattle.std.specs.Prelude.{slice_index_or}
use Rattle.frp_expr.specs.Parts.{zero_val}
use Rattle.frp_make.proofs.lines.lam.Given as goal

abbrev pub invariant-loop-position : goal.invariant-loop-position
invariant-loop-position l = l.kept ≡ map (λ (i : ℕ). slice_index_or l.values i zero_val) (take l.position-index l.position-items)
