-- what the seat of a pass knows, and what each part of a call does to it
use Rattle.std.specs.Prelude.{◌≡◌, ℕ, ◌%◌, ◌^◌, ◌<◌, ◌≤◌, List, [], ◌∷◌, ◌++◌, length, Option, Some, None, true, IsSomeAnd}
use Rattle.frp_gate.specs.declared.entry.Entry.{Entry}
use Rattle.frp_gate.specs.declared.view.PassView.{PassView}
use Rattle.frp_gate.specs.declared.view.Start.{Start}
use Rattle.frp_gate.specs.Entries.{entries_of}
use Rattle.frp_gate.specs.Views.{SeatState, IsIdle, fresh_view, waiting, at_turn, put_down, passed_on}

module _ {M : Type 0} where
  -- the length of the history that it has seen
  abbrev pub seen_of : Option (PassView M) → ℕ
  seen_of None = 0
  seen_of (Some d) = d.seen

  -- the entries of its number, as it last had the machine
  abbrev pub mine_of : {C R : Type 0} → (M → List (Entry C R)) → Option (PassView M) → List (ℕ × Entry C R)
  mine_of history None = []
  mine_of history (Some d) = entries_of d.number (history d.known)

  -- between two calls, of this one number, and with no pass joined into it
  abbrev pub IsAlone : ℕ → PassView M → Type 0
  IsAlone n d = IsIdle d × (d.block ≡ 1) × (d.kept ≡ []) × (d.number ≡ n)

  -- the seat of a pass between two calls
  abbrev pub IsResting : ℕ → SeatState M → Type 0
  IsResting n m = (m.1 ≡ []) × IsSomeAnd m.0 (IsAlone n)

  -- the same, with its view named
  abbrev pub Rests : ℕ → SeatState M → Type 0
  Rests n m = (d : PassView M) × (m ≡ (Some d, [])) × IsAlone n d

  -- the ticket t was drawn, and is served
  abbrev pub Enters : ℕ → SeatState M → SeatState M → Type 0
  Enters word m m' = (d : PassView M) → m ≡ (Some d, [])
      → (t : ℕ) × (word ≡ t % 2 ^ 64) × (m' ≡ (Some (at_turn (waiting t d)), []))

  -- the machine in hand goes from y to some z that `next` allows
  abbrev pub Runs : SeatState M → SeatState M → (M → M → Type 0) → Type 0
  Runs m m' next = (y : M) → m.1 ≡ (0, y) ∷ [] → (z : M) × (m' ≡ (m.0, (0, z) ∷ [])) × next y z

  -- the seat of the `size` numbers from `from` on, in a room that begins so
  abbrev pub first_state : {C R : Type 0} → (M → List (Entry C R)) → Start M → ℕ → ℕ → SeatState M
  first_state history start from size =
      (Some (fresh_view from size start.machine.value (length (history start.machine.value))), [])

  -- the machine has one entry more, and so many in all
  abbrev pub HasEntered : {C R F : Type 0} → (M → List (Entry C R)) → (M → F) → Entry C R → ℕ → M → M → Type 0
  HasEntered history fixed e n y z = (history z ≡ history y ++ e ∷ []) × (fixed z ≡ fixed y) × (n ≡ length (history z))

  -- the machine has no entry more, and the stop may come
  abbrev pub HasStopped : {C R F : Type 0} → (M → List (Entry C R)) → (M → F) → (F → ℕ → Type 0) → M → M → Type 0
  HasStopped history fixed may y z = (history z ≡ history y) × (fixed z ≡ fixed y) × may (fixed y) (length (history y))

  -- the machine is in hand, as the view says, and the ticket is the one that is served
  abbrev pub Holds : {C R F : Type 0} → (M → List (Entry C R)) → (M → F) → ℕ → SeatState M → Type 0
  Holds history fixed ticket m = (d : PassView M) × (y : M) × (m ≡ (Some d, (0, y) ∷ [])) × (d.turn ≡ true)
      × (d.away ≡ true)
      × (history y ≡ history d.known) × (fixed y ≡ fixed d.first) × (ticket ≡ d.ticket % 2 ^ 64)

  -- the machine is put back, and the turn is passed on
  abbrev pub Leaves : SeatState M → SeatState M → Type 0
  Leaves m m' = (d : PassView M) (y : M) → m ≡ (Some d, (0, y) ∷ []) → m' ≡ (Some (passed_on (put_down d)), [])

  -- the seat is of a room whose machine was this one at first
  abbrev pub Began : M → SeatState M → Type 0
  Began start m = IsSomeAnd m.0 (λ (d : PassView M). d.first ≡ start)

  -- what no call changes
  abbrev pub Same : PassView M → PassView M → Type 0
  Same d d' = IsIdle d' × (d'.block ≡ d.block) × (d'.kept ≡ d.kept) × (d'.number ≡ d.number) × (d'.first ≡ d.first)

  -- the entry stands at the place n, above all that was seen, and is the one new entry of this number
  abbrev pub Enlists : {C R : Type 0} → (M → List (Entry C R)) → Entry C R → ℕ → SeatState M → SeatState M → Type 0
  Enlists history e n m m' = (d : PassView M) → m ≡ (Some d, [])
      → (d' : PassView M) × (m' ≡ (Some d', [])) × Same d d' × (d'.seen ≡ n) × (d.seen < n)
      × (entries_of d.number (history d'.known) ≡ entries_of d.number (history d.known) ++ (n, e) ∷ [])

  -- there is no new entry of this number, and the stop may come at the length n
  abbrev pub Stops : {C R F : Type 0} → (M → List (Entry C R)) → (M → F) → (F → ℕ → Type 0) → ℕ → SeatState M
      → SeatState M → Type 0
  Stops history fixed may n m m' = (d : PassView M) → m ≡ (Some d, [])
      → (d' : PassView M) × (m' ≡ (Some d', [])) × Same d d' × (d'.seen ≡ n) × (d.seen ≤ n)
      × (entries_of d.number (history d'.known) ≡ entries_of d.number (history d.known)) × may (fixed d.first) n
