use Rattle.std.proofs.Common.{◌≡◌}
use Rattle.std.specs.Prelude.{All}
use Rattle.frp_gate.specs.declared.pass.Pass.{Pass}
use Rattle.frp_gate.specs.Seats.{Gathers}
use Rattle.frp_gate.proofs.seats.gather.Given as goal

abbrev pub invariant-loop-next : goal.invariant-loop-next
invariant-loop-next g l =
    (l.seat.table_id ≡ l.fn.gate.table_id)
    × All (λ (pass : Pass g.row.M.Denot). pass.seat.table_id ≡ l.fn.gate.table_id) l.passes.items
    × Gathers l.fn.passes.items l.passes.items l.seat.me

abbrev pub decreases-loop-next : goal.decreases-loop-next
decreases-loop-next g l = goal.left-loop-next g l
