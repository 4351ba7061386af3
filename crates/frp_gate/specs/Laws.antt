-- the entries of a caller stand at their places, and are all of its number
use Rattle.std.specs.Prelude.{◌≡◌, ℕ, ◌+◌, ◌-◌, ◌<◌, ◌≤◌, List, length, All, slice_index_or}
use Rattle.std.specs.List.{ContainsAt}
use Rattle.frp_gate.specs.declared.entry.Entry.{Entry}
use Rattle.frp_gate.specs.Entries.{entries_of}

module _ {C R : Type 0} where
  -- where so many entries stand before this history, it has the entry at the place, and the entry is of the caller
  abbrev pub StandsIn : ℕ → ℕ → List (Entry C R) → ℕ × Entry C R → Type 0
  StandsIn caller before history p = (before < p.0) × (p.0 ≤ before + length history)
      × (slice_index_or history (p.0 - before - 1) p.1 ≡ p.1) × (p.1.caller ≡ caller)

-- each of a caller's entries stands at its place
abbrev pub OwnEntriesStand : Type 0 → Type 0 → Type 0
OwnEntriesStand C R = (caller : ℕ) (history : List (Entry C R)) → All (StandsIn caller 0 history) (entries_of caller history)
