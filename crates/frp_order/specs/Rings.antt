-- Places, numbered from 0, each with a row of places to which it is linked: rings along links, and orders in which links lead back.
use Rattle.std.specs.Prelude.{◌≡◌, ℕ, ◌<◌, ◌+◌, ◌-◌, List, [], length, slice_index, slice_index_or}

-- the places to which a place is linked
abbrev pub row : List (List ℕ) → ℕ → List ℕ
row rows p = slice_index_or rows p []

-- one place is linked to another
abbrev pub IsLinked : List (List ℕ) → ℕ → ℕ → Type 0
IsLinked rows a b = (i : ℕ) × (i < length (row rows a)) × (slice_index (row rows a) i ≡ b)

-- links lead to places
abbrev pub AreInside : List (List ℕ) → Type 0
AreInside rows = (a b : ℕ) → IsLinked rows a b → b < length rows

-- distinct places, each linked to the next and the last to the first
pub record IsRing (rows : List (List ℕ)) (ring : List ℕ) : Type 0 where
  pub some : 0 < length ring
  pub once : (i j : ℕ) → i < length ring → j < length ring → slice_index ring i ≡ slice_index ring j → i ≡ j
  pub next : (i : ℕ) → i + 1 < length ring → IsLinked rows (slice_index ring i) (slice_index ring (i + 1))
  pub round : IsLinked rows (slice_index ring (length ring - 1)) (slice_index ring 0)

-- each place once, after all those to which it is linked; `number` says where a place stands
pub record IsOrder (rows : List (List ℕ)) (order : List ℕ) : Type 0 where
  pub number : ℕ → ℕ
  pub whole : length order ≡ length rows
  pub placed : (p : ℕ) → p < length rows → (number p < length order) × (slice_index order (number p) ≡ p)
  pub numbered : (i : ℕ) → i < length order → (slice_index order i < length rows) × (number (slice_index order i) ≡ i)
  pub back : (a b : ℕ) → IsLinked rows a b → number b < number a
