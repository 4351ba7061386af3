-- the rule of the room, which holds between any two steps
use Rattle.std.specs.Prelude.{◌≡◌, ◌⊎◌, ℕ, ◌+◌, ◌%◌, ◌^◌, ◌<◌, ◌≤◌, List, [], ◌∷◌, length, Option, Some, None, true, false, ⊤}
use mathlib.Core.Option.{some}
use mathlib.Core.Option as maybe
use lib.ListN.{get_elem?}
use Rattle.atomic_table.specs.Table.{State}
use Rattle.frp_gate.specs.declared.entry.Entry.{Entry}
use Rattle.frp_gate.specs.declared.view.PassView.{PassView}
use Rattle.frp_gate.specs.declared.view.Start.{Start}
use Rattle.frp_gate.specs.declared.view.JoinedPass.{JoinedPass}
use Rattle.frp_gate.specs.Entries.{entries_of, AreCalledBelow}
use Rattle.frp_gate.specs.Views.{tickets, parts, total, InBlock}

module _ {M : Type 0} where
  -- no pass has the machine
  abbrev pub NoneAway : List (Option (PassView M)) → Type 0
  NoneAway views = (j : ℕ) (d : PassView M) → get_elem? views j ≡ some (Some d) → d.away ≡ false

  -- the slot is empty, and a pass has the machine
  abbrev pub IsOut : State M (Option (PassView M)) → Type 0
  IsOut s = (s.homes ≡ maybe.none ∷ [])
      × ((j : ℕ) × (d : PassView M) × (get_elem? s.views j ≡ some (Some d)) × (d.away ≡ true))

module _ {M C R F : Type 0} (history : M → List (Entry C R)) (fixed : M → F) where
  -- What the rule says of the view d of seat j, where `served` is the ticket that is served, `drawn` the next one to
  -- draw, and `log` the history. `seat` says which seat has a number, and `owner` which seat drew a ticket.
  -- number: of its numbers, this seat alone has them, and the history has the entries that the pass knows;
  -- kept: the same of those that were joined into it; waits: it holds its ticket alone; turn: its ticket is served;
  -- away: it has the machine, and the history is the one that it took or published; seen, first: what it knows is so
  pub record PassFits (start : M) (callers served drawn : ℕ) (log : List (Entry C R)) (seat owner : ℕ → ℕ) (j : ℕ)
      (d : PassView M) : Type 0 where
    pub number : (c : ℕ) → InBlock d c
        → (seat c ≡ j) × (c < callers) × (entries_of c log ≡ entries_of c (history d.known))
    pub kept : (i : ℕ) (t : JoinedPass M) → get_elem? d.kept i ≡ some t
        → (seat t.number ≡ j) × (entries_of t.number log ≡ entries_of t.number (history t.known))
        × (t.seen ≤ length log)
    pub waits : d.waits ≡ true → (served ≤ d.ticket) × (d.ticket < drawn) × (owner d.ticket ≡ j) × (d.block ≡ 1)
        × (d.kept ≡ [])
    pub turn : d.turn ≡ true → (d.waits ≡ true) × (d.ticket ≡ served)
    pub away : d.away ≡ true → (d.turn ≡ true) × (log ≡ history d.known)
    pub seen : d.seen ≤ length log
    pub first : d.first ≡ start

  abbrev pub Fits : M → ℕ → ℕ → ℕ → List (Entry C R) → (ℕ → ℕ) → (ℕ → ℕ) → ℕ → Option (PassView M) → Type 0
  Fits start callers served drawn log seat owner j None = ⊤
  Fits start callers served drawn log seat owner j (Some d) = PassFits start callers served drawn log seat owner j d

  -- the slot has the machine, with the history and the fixed part
  abbrev pub AtHome : M → List (Entry C R) → State M (Option (PassView M)) → Type 0
  AtHome start log s = (y : M) × (s.homes ≡ some y ∷ []) × (history y ≡ log) × (fixed y ≡ fixed start)
      × NoneAway s.views

  abbrev pub Slot : M → List (Entry C R) → State M (Option (PassView M)) → Type 0
  Slot start log s = AtHome start log s ⊎ IsOut s

  -- the words, the slot and all views, in a room that began with k
  pub record Kept (k : Start M) (s : State M (Option (PassView M))) : Type 0 where
    pub served : ℕ
    pub drawn : ℕ
    pub log : List (Entry C R)
    pub seat : ℕ → ℕ
    pub owner : ℕ → ℕ
    pub words_are : s.words ≡ drawn % 2 ^ 64 ∷ served % 2 ^ 64 ∷ length log ∷ []
    pub out : drawn ≡ served + total tickets s.views
    pub all_parts : total parts s.views ≡ k.callers
    pub few : k.callers < 2 ^ 32
    pub each : (j : ℕ) (v : Option (PassView M)) → get_elem? s.views j ≡ some v
        → Fits k.machine.value k.callers served drawn log seat owner j v
    pub slot : Slot k.machine.value log s
    pub called : AreCalledBelow k.callers (length (history k.machine.value)) log
