use Rattle.std.proofs.Common.{◌≡◌, ◌-◌, length}
use Rattle.std.specs.Prelude.{All}
use Rattle.frp_gate.specs.declared.pass.Pass.{Pass}
use Rattle.frp_gate.specs.Calls.{first_state}
use Rattle.frp_gate.specs.Passes.{AreNumbered}
use Rattle.frp_gate.specs.Seats.{IsFresh}
use Rattle.frp_gate.proofs.seats.passes_of.Given as goal

abbrev pub invariant-loop-number : goal.invariant-loop-number
invariant-loop-number g l =
    (l.seat.table_id ≡ l.fn.seat.table_id)
    × (l.seat.me ≡ first_state g.M.Machine.history l.fn.gate.key l.number (l.fn.callers - l.number))
    × (length l.passes.items ≡ l.number) × (l.passes.cap ≡ l.fn.passes.cap)
    × AreNumbered l.passes.items
    × All (λ (pass : Pass g.row.M.Denot). pass.seat.table_id ≡ l.fn.seat.table_id) l.passes.items
    × All (IsFresh g.M.Machine.history l.fn.gate.key) l.passes.items
