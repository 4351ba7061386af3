-- what each kind of step on the room's words tells the seat that makes it
use Rattle.std.specs.Prelude.{◌≡◌, ◌≢◌, ℕ, ◌%◌, ◌^◌, ◌≤◌, List, [], ◌∷◌, length, Some, true}
use Rattle.atomic_table.specs.Table.{Step}
use Rattle.frp_gate.specs.declared.entry.Entry.{Entry}
use Rattle.frp_gate.specs.declared.view.PassView.{PassView}
use Rattle.frp_gate.specs.Entries.{entries_of}
use Rattle.frp_gate.specs.Views.{SeatState, waiting, at_turn, holding, published, put_down, passed_on, seeing}

module _ {M : Type 0} where
  -- the pass goes from d to some d' that `next` allows
  abbrev pub Goes : SeatState M → SeatState M → (PassView M → PassView M → Type 0) → Type 0
  Goes m m' next = (d : PassView M) → m.0 ≡ Some d → (d' : PassView M) × (m'.0 ≡ Some d') × next d d'

  -- a ticket is drawn, and the word found is it
  abbrev pub Draws : Step M → SeatState M → ℕ → SeatState M → Type 0
  Draws st m n m' = (m'.1 ≡ m.1) × Goes m m' (λ d d'. (t : ℕ) × (n ≡ t % 2 ^ 64) × (d' ≡ waiting t d))

  -- where the served ticket is the pass's own, it is its turn
  abbrev pub Looks : Step M → SeatState M → ℕ → SeatState M → Type 0
  Looks st m n m' = (m'.1 ≡ m.1)
      × Goes m m' (λ d d'. (n ≡ d.ticket % 2 ^ 64 → d' ≡ at_turn d) × (n ≢ d.ticket % 2 ^ 64 → d' ≡ d))

  -- the machine in hand is the one that the pass knows, and its length is published
  abbrev pub Publishes : Step M → SeatState M → ℕ → SeatState M → Type 0
  Publishes st m n m' = (m'.1 ≡ m.1) × Goes m m' (λ d d'. (y : M) → m.1 ≡ (0, y) ∷ [] → d' ≡ published y n d)

  -- the machine goes back into the slot
  abbrev pub PutsBack : Step M → SeatState M → ℕ → SeatState M → Type 0
  PutsBack st m n m' = (m'.1 ≡ []) × Goes m m' (λ d d'. d' ≡ put_down d)

  -- the next ticket is served
  abbrev pub PassesOn : Step M → SeatState M → ℕ → SeatState M → Type 0
  PassesOn st m n m' = (m'.1 ≡ m.1) × Goes m m' (λ d d'. d' ≡ passed_on d)

module _ {M C R : Type 0} (history : M → List (Entry C R)) where
  -- the pass has seen the length found, which is no less than what it had seen
  abbrev pub Reads : Step M → SeatState M → ℕ → SeatState M → Type 0
  Reads st m n m' = (m'.1 ≡ m.1)
      × Goes m m' (λ d d'. (d' ≡ seeing n d) × (d.seen ≤ n) × (d.away ≡ true → n ≡ length (history d.known)))

module _ {M C R F : Type 0} (history : M → List (Entry C R)) (fixed : M → F) where
  -- the machine is taken, in whose history the entries of the pass are those that it knew
  abbrev pub Takes : Step M → SeatState M → ℕ → SeatState M → Type 0
  Takes st m n m' = (y : M) × (m'.1 ≡ (0, y) ∷ m.1)
      × Goes m m' (λ d d'. (d' ≡ holding y d)
      × (entries_of d.number (history y) ≡ entries_of d.number (history d.known)) × (d.seen ≤ length (history y))
      × (fixed y ≡ fixed d.first))
