-- the entries of a history, and those of one caller
use Rattle.std.specs.Prelude.{ℕ, suc, ◌<◌, ◌==◌, if◌then◌else◌, List, [], ◌∷◌, All, drop}
use Rattle.frp_gate.specs.declared.entry.Entry.{Entry}

abbrev pub entry : {C R : Type 0} → ℕ → C → R → Entry C R
entry caller cmd reply = record { caller = caller; cmd = cmd; reply = reply }

module _ {C R : Type 0} where
  -- the entries of this caller, each with its place, where so many entries stand before these
  abbrev pub entries_from : ℕ → ℕ → List (Entry C R) → List (ℕ × Entry C R)
  entries_from caller before [] = []
  entries_from caller before (e ∷ es) =
      if e.caller == caller then (
        suc before,
        e,
      ) ∷ entries_from caller (suc before) es else entries_from caller (suc before) es

  -- the entries of this caller in the history, each with its place, from 1
  abbrev pub entries_of : ℕ → List (Entry C R) → List (ℕ × Entry C R)
  entries_of caller history = entries_from caller 0 history

  -- past the first so many, each entry is of a caller with a lower number than this
  abbrev pub AreCalledBelow : ℕ → ℕ → List (Entry C R) → Type 0
  AreCalledBelow callers before history = All (λ e. e.caller < callers) (drop before history)
