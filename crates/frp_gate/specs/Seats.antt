-- the passes that are made of one seat, and the seat that they are joined into
use Rattle.std.specs.Prelude.{◌≡◌, ℕ, ◌≤◌, List, [], ◌++◌, length, All, Some}
use mathlib.Core.Option.{some}
use lib.ListN.{get_elem?}
use Rattle.frp_gate.specs.declared.entry.Entry.{Entry}
use Rattle.frp_gate.specs.declared.pass.Pass.{Pass}
use Rattle.frp_gate.specs.declared.view.PassView.{PassView}
use Rattle.frp_gate.specs.declared.view.Start.{Start}
use Rattle.frp_gate.specs.Views.{SeatState, IsIdle, as_joined, members}
use Rattle.frp_gate.specs.Calls.{first_state, seen_of, mine_of}
use Rattle.frp_gate.specs.Entries.{entries_of, AreCalledBelow}

module _ {M : Type 0} where
  -- no call was made with the pass, in a room that begins so
  abbrev pub IsFresh : {C R : Type 0} → (M → List (Entry C R)) → Start M → Pass M → Type 0
  IsFresh history start pass = pass.seat.me ≡ first_state history start pass.number 1

  -- what the pass knows is known to the collector d
  abbrev pub IsMember : PassView M → Pass M → Type 0
  IsMember d pass = (v : PassView M) × (pass.seat.me ≡ (Some v, [])) × (v.number ≡ pass.number)
      × ((i : ℕ) × (get_elem? (members d) i ≡ some (as_joined v)))

  -- the seat is of a collector of as many passes, which has no number but its own
  abbrev pub Collects : ℕ → PassView M → SeatState M → Type 0
  Collects count d m = (m ≡ (Some d, [])) × IsIdle d × (d.block ≡ 1) × (length (members d) ≡ count)

  -- some of the passes are left, and the others are joined in the seat
  abbrev pub Gathers : List (Pass M) → List (Pass M) → SeatState M → Type 0
  Gathers passes left m = (d : PassView M) × (done : List (Pass M)) × (passes ≡ left ++ done)
      × Collects (length done) d m × All (IsMember d) done

  -- all passes are joined in the seat
  abbrev pub AreJoined : List (Pass M) → SeatState M → Type 0
  AreJoined passes m = (d : PassView M) × Collects (length passes) d m × All (IsMember d) passes

-- what is known of the machine once all passes are joined
pub record HandsOut {M C R F : Type 0} (history : M → List (Entry C R)) (fixed : M
    → F) (start : Start M) (passes : List (Pass M)) (machine : M) : Type 0 where
  pub part : fixed machine ≡ fixed start.machine.value
  pub called : AreCalledBelow start.callers (length (history start.machine.value)) (history machine)
  pub mine : All (λ (pass : Pass M). entries_of pass.number (history machine) ≡ mine_of history pass.seat.me.0) passes
  pub seen : All (λ (pass : Pass M). seen_of pass.seat.me.0 ≤ length (history machine)) passes
