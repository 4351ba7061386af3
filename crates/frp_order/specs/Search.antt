-- How far a search along links has come: which places are met, the path to the present one, and those that are done with.
use Rattle.std.specs.Prelude.{◌≡◌, ℕ, Bool, true, false, ◌<◌, ◌+◌, ◌-◌, ◌*◌, List, [], length, replicate, slice_index, slice_index_or}
use Rattle.std.specs.List.{sum_by}
use Rattle.frp_order.specs.declared.mark.Mark.{Mark}
use Rattle.frp_order.specs.declared.mark.Mark.TheVariants.{Unseen, Open, Done}
use Rattle.frp_order.specs.declared.visit.Visit.{Visit}
use Rattle.frp_order.specs.declared.search.Search.{Search}
use Rattle.frp_order.specs.Rings.{row, IsLinked}

abbrev pub is_unseen : Mark → Bool
is_unseen Unseen = true
is_unseen (Open j) = false
is_unseen (Done k) = false

abbrev pub is_done : Mark → Bool
is_done Unseen = false
is_done (Open j) = false
is_done (Done k) = true

abbrev pub no_visit : Visit
no_visit = record { place = 0; next = 0 }

-- the mark of a place, the visit of a number, and the last visit
abbrev pub mark_at : List Mark → ℕ → Mark
mark_at marks p = slice_index_or marks p Unseen

abbrev pub visit_at : List Visit → ℕ → Visit
visit_at path j = slice_index_or path j no_visit

abbrev pub top_of : List Visit → Visit
top_of path = visit_at path (length path - 1)

-- what a search holds
pub record State : Type 0 where
  pub marks : List Mark
  pub path : List Visit
  pub order : List ℕ

abbrev pub state_of : Search → State
state_of s = record { marks = s.marks.items; path = s.path.items; order = s.order.items }

-- how many places were not met yet
abbrev pub one_unseen : Mark → ℕ
one_unseen Unseen = 1
one_unseen (Open j) = 0
one_unseen (Done k) = 0

abbrev pub unseen : List Mark → ℕ
unseen marks = sum_by one_unseen marks

-- the link that a visit is at leads to this place
pub record LeadsNext (rows : List (List ℕ)) (v : Visit) (to : ℕ) : Type 0 where
  pub inside : v.next < length (row rows v.place)
  pub leads : slice_index (row rows v.place) v.next ≡ to

-- the links before the one that a visit is at lead to places that are done with
abbrev pub IsPassed : List (List ℕ) → List Mark → Visit → Type 0
IsPassed rows marks v = (i : ℕ) → i < v.next → i < length (row rows v.place) → is_done (mark_at marks (slice_index (row rows v.place) i)) ≡ true

-- The path's visits are the open places, each at its link to the next; the places that are done with stand in the order, each
-- after those to which it is linked.
pub record IsSearch (rows : List (List ℕ)) (s : State) : Type 0 where
  pub marked : length s.marks ≡ length rows
  pub total : length s.order + length s.path + unseen s.marks ≡ length rows
  pub opens : (j : ℕ) → j < length s.path → mark_at s.marks (visit_at s.path j).place ≡ Open j
  pub opened : (p j : ℕ) → mark_at s.marks p ≡ Open j → (j < length s.path) × ((visit_at s.path j).place ≡ p)
  pub passed : (j : ℕ) → j < length s.path → IsPassed rows s.marks (visit_at s.path j)
  pub leads : (j : ℕ) → j + 1 < length s.path → LeadsNext rows (visit_at s.path j) (visit_at s.path (j + 1)).place
  pub placed : (p k : ℕ) → mark_at s.marks p ≡ Done k → (k < length s.order) × (slice_index s.order k ≡ p)
  pub numbered : (k : ℕ) → k < length s.order → mark_at s.marks (slice_index s.order k) ≡ Done k
  pub back : (p q k : ℕ) → mark_at s.marks p ≡ Done k → IsLinked rows p q → (m : ℕ) × (mark_at s.marks q ≡ Done m) × (m < k)

-- what is done with stays so, and what was met
pub record Keeps (old new : State) : Type 0 where
  pub done : (p : ℕ) → is_done (mark_at old.marks p) ≡ true → is_done (mark_at new.marks p) ≡ true
  pub seen : (p : ℕ) → is_unseen (mark_at old.marks p) ≡ false → is_unseen (mark_at new.marks p) ≡ false

-- what is left to do
abbrev pub work : State → ℕ
work s = 2 * unseen s.marks + length s.path

-- a step of a search
pub record GoesOn (rows : List (List ℕ)) (old new : State) : Type 0 where
  pub search : IsSearch rows new
  pub keeps : Keeps old new
  pub less : work new < work old

-- nothing is met yet
abbrev pub unmet : ℕ → State
unmet n = record { marks = replicate n Unseen; path = []; order = [] }
