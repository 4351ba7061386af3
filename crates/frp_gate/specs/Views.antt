-- what a seat knows, and how a step changes it
use Rattle.std.specs.Prelude.{◌≡◌, ℕ, suc, ◌+◌, ◌-◌, ◌<◌, ◌≤◌, List, [], ◌∷◌, ◌++◌, length, Option, Some, None, Bool, true, false}
use Rattle.atomic_table.specs.Table.{Me}
use Rattle.frp_gate.specs.declared.view.PassView.{PassView}
use Rattle.frp_gate.specs.declared.view.JoinedPass.{JoinedPass}

-- the view of a seat, none once it was joined into another, and the machine where it is in hand
abbrev pub SeatState : Type 0 → Type 0
SeatState M = Me M (Option (PassView M))

abbrev pub one_if : Bool → ℕ
one_if true = 1
one_if false = 0

module _ {M : Type 0} where
  -- how many tickets it holds
  abbrev pub tickets : Option (PassView M) → ℕ
  tickets None = 0
  tickets (Some d) = one_if d.waits

  -- how many numbers it stands for, with those that were joined into it
  abbrev pub parts : Option (PassView M) → ℕ
  parts None = 0
  parts (Some d) = d.block + length d.kept

  -- all views' together
  abbrev pub total : (Option (PassView M) → ℕ) → List (Option (PassView M)) → ℕ
  total f [] = 0
  total f (v ∷ vs) = f v + total f vs

  -- the number is one of those that the pass stands for
  abbrev pub InBlock : PassView M → ℕ → Type 0
  InBlock d c = (d.number ≤ c) × (c < d.number + d.block)

  -- no call was made yet, with the `size` numbers from `from` on
  abbrev pub fresh_view : ℕ → ℕ → M → ℕ → PassView M
  fresh_view from size machine seen = record {
    number = from;
    block = size;
    kept = [];
    known = machine;
    first = machine;
    seen = seen;
    waits = false;
    ticket = 0;
    turn = false;
    away = false;
  }

  -- between two calls
  abbrev pub IsIdle : PassView M → Type 0
  IsIdle d = (d.waits ≡ false) × (d.turn ≡ false) × (d.away ≡ false)

  -- it drew the ticket t
  abbrev pub waiting : ℕ → PassView M → PassView M
  waiting t d = record d { waits = true; ticket = t }

  -- its ticket is served
  abbrev pub at_turn : PassView M → PassView M
  at_turn d = record d { turn = true }

  -- it took the machine
  abbrev pub holding : M → PassView M → PassView M
  holding m d = record d { known = m; away = true }

  -- it published the length n of the machine's history
  abbrev pub published : M → ℕ → PassView M → PassView M
  published m n d = record d { known = m; seen = n }

  -- it put the machine back
  abbrev pub put_down : PassView M → PassView M
  put_down d = record d { away = false }

  -- it passed its turn on
  abbrev pub passed_on : PassView M → PassView M
  passed_on d = record d { waits = false; turn = false }

  -- it read the length n of the history
  abbrev pub seeing : ℕ → PassView M → PassView M
  seeing n d = record d { seen = n }

  -- its first number was split off
  abbrev pub less_first : PassView M → PassView M
  less_first d = record d { number = suc d.number; block = d.block - 1 }

  -- its first number alone
  abbrev pub only_first : PassView M → PassView M
  only_first d = record d { block = 1; kept = [] }

  -- what is kept of a pass that is joined into another
  abbrev pub as_joined : PassView M → JoinedPass M
  as_joined d = record { number = d.number; known = d.known; seen = d.seen }

  -- another was joined into it
  abbrev pub joined : PassView M → PassView M → PassView M
  joined d e = record d { kept = d.kept ++ as_joined e ∷ [] }

  -- itself and the passes that were joined into it
  abbrev pub members : PassView M → List (JoinedPass M)
  members d = as_joined d ∷ d.kept

-- a pass is made from the first number, and the rest of the block stays
abbrev pub other_passes : {M : Type 0} → Option (PassView M) → Option (PassView M)
other_passes None = None
other_passes (Some d) = Some (less_first d)

abbrev pub first_pass : {M : Type 0} → Option (PassView M) → Option (PassView M)
first_pass None = None
first_pass (Some d) = Some (only_first d)

-- the second is joined into the first
abbrev pub both_of : {M : Type 0} → Option (PassView M) → Option (PassView M) → Option (PassView M)
both_of None w = None
both_of (Some d) None = Some d
both_of (Some d) (Some e) = Some (joined d e)
