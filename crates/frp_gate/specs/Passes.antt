-- what a pass has seen and owns, and whose it is
use Rattle.std.specs.Prelude.{◌≡◌, ℕ, ◌<◌, List, [], ◌∷◌, ◌++◌, length, slice_index_or}
use Rattle.frp_gate.specs.declared.entry.Entry.{Entry}
use Rattle.frp_gate.specs.declared.pass.Pass.{Pass}
use Rattle.frp_gate.specs.declared.room.Room.{Room}
use Rattle.frp_gate.specs.Entries.{entry, entries_of}
use Rattle.frp_gate.specs.Calls.{Began, seen_of, mine_of}

module _ {M : Type 0} where
  -- the caller's number
  abbrev pub number : Pass M → ℕ
  number pass = pass.number

  -- the length of the history that the pass has seen
  abbrev pub seen : Pass M → ℕ
  seen pass = seen_of pass.seat.me.0

  -- its own entries, each with its place
  abbrev pub mine : {C R : Type 0} → (M → List (Entry C R)) → Pass M → List (ℕ × Entry C R)
  mine history pass = mine_of history pass.seat.me.0

  -- the pass after a call owns one entry more, of its number, this command and this reply, at this place
  abbrev pub Gains : {C R : Type 0} → (M → List (Entry C R)) → Pass M → Pass M → ℕ → C → R → Type 0
  Gains history before after place cmd reply =
      mine history after ≡ mine history before ++ (place, entry (number before) cmd reply) ∷ []

  -- the entries of its number in the machine's history are exactly its own
  abbrev pub OwnsAllOf : {C R : Type 0} → (M → List (Entry C R)) → M → Pass M → Type 0
  OwnsAllOf history machine pass = entries_of (number pass) (history machine) ≡ mine history pass

  -- each pass has its place in the list, from 0, as its number
  abbrev pub AreNumbered : List (Pass M) → Type 0
  AreNumbered passes = (i : ℕ) (d : Pass M) → i < length passes → number (slice_index_or passes i d) ≡ i

module _ {M C R S H F : Type 0} where
  -- how many passes were made with the room
  abbrev pub pass_count : Room M C R S H F → ℕ
  pass_count room = room.callers

  -- the machine as it was when the room was made
  abbrev pub first_machine : Room M C R S H F → M
  first_machine room = room.table.shared.key.machine.value

  -- the length of the history when the room was made
  abbrev pub first_length : (M → List (Entry C R)) → Room M C R S H F → ℕ
  first_length history room = length (history (first_machine room))

  -- the pass was made with this room
  abbrev pub IsPassOf : Room M C R S H F → Pass M → Type 0
  IsPassOf room pass = (pass.seat.table_id ≡ room.table.shared.table_id) × Began (first_machine room) pass.seat.me

module _ {M C R : Type 0} where
  -- a pass that no call was made with: it has seen all entries that the machine had, and owns those of its number
  pub record IsFirst (history : M → List (Entry C R)) (machine : M) (pass : Pass M) : Type 0 where
    pub seen : seen pass ≡ length (history machine)
    pub mine : mine history pass ≡ entries_of (number pass) (history machine)
