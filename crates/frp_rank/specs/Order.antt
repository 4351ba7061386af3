-- What contracts see of ranks: the rank of each place and the links between places, now and at the last commit.
use Rattle.std.specs.Prelude.{◌≡◌, ◌≢◌, ℕ, Bool, true, false, ◌<◌, ◌≤◌, ◌+◌, ◌^◌, ◌⊎◌, List, [], ◌∷◌, ◌++◌, length, slice_index, nat_le}
use Rattle.std.specs.List.{list_any}
use Rattle.frp_rank.specs.Chain.{Link, is_linked, is_closed_chain, with_link, LeadsTo}

-- the ranks of the places 0, 1, .., and the links between them
pub record Order : Type 0 where
  pub ranks : List ℕ
  pub links : List Link

-- as things are, and as they were at the last commit
pub record Versions : Type 0 where
  pub now : Order
  pub base : Order

-- without places
abbrev pub no_places : Order
no_places = record { ranks = []; links = [] }

-- with one place more, at rank 0
abbrev pub with_place : Order → Order
with_place o = record o { ranks = o.ranks ++ 0 ∷ [] }

abbrev pub rank_of : Order → ℕ → ℕ
rank_of o p = slice_index o.ranks p

-- each link leads to a lower rank
abbrev pub LeadsLower : (ℕ → ℕ → Bool) → (ℕ → ℕ) → Type 0
LeadsLower linked rank = (a b : ℕ) → linked a b ≡ true → rank b < rank a

-- each link is between places and leads to a lower rank; ranks, and the number of places, are below 2^32
pub record IsOrdered (o : Order) : Type 0 where
  pub lower : LeadsLower (is_linked o.links) (rank_of o)
  pub inside : (a b : ℕ) → is_linked o.links a b ≡ true → (a < length o.ranks) × (b < length o.ranks)
  pub small : (p : ℕ) → rank_of o p < 2 ^ 32
  pub few : length o.ranks < 2 ^ 32

-- a place and some that lead to it rise, all by one number; the others keep their rank
pub record RaisesAbove (old : Order) (from : ℕ) (ranks : List ℕ) : Type 0 where
  pub by : ℕ
  pub length_kept : length ranks ≡ length old.ranks
  pub changed : (p : ℕ) → slice_index ranks p ≢ rank_of old p → (p ≡ from) ⊎ LeadsTo old.links p from
  pub alike : (p : ℕ) → (slice_index ranks p ≡ rank_of old p) ⊎ (slice_index ranks p ≡ rank_of old p + by)
  pub risen : (p : ℕ) → rank_of old p ≤ slice_index ranks p

-- lower ranks stay lower, and equal ones equal
pub record KeepsOrder (ranks new : List ℕ) : Type 0 where
  pub same_length : length new ≡ length ranks
  pub below : (p q : ℕ) → p < length ranks → q < length ranks → slice_index ranks p < slice_index ranks q → slice_index new p < slice_index new q
  pub equal : (p q : ℕ) → p < length ranks → q < length ranks → slice_index ranks p ≡ slice_index ranks q → slice_index new p ≡ slice_index new q

-- whether a rank has reached the limit
abbrev pub has_high : List ℕ → Bool
has_high ranks = list_any (λ r. nat_le (2 ^ 32) r) ranks

-- the ranks are those raised, or where one of these reached the limit, others that keep their order
pub record RenumbersAt (raised new : List ℕ) : Type 0 where
  pub low : has_high raised ≡ false → new ≡ raised
  pub high : has_high raised ≡ true → KeepsOrder raised new

-- the link is there beside those before, and closes no chain; ranks rose so that all links still lead lower, and were renumbered at the limit
pub record Raises (old new : Order) (from to : ℕ) : Type 0 where
  pub linked : (a b : ℕ) → is_linked new.links a b ≡ with_link (is_linked old.links) from to a b
  pub ranks : (raised : List ℕ) × RaisesAbove old from raised × RenumbersAt raised new.ranks
  pub chainless : (c : List ℕ) → is_closed_chain (with_link (is_linked old.links) from to) c ≡ false
  pub ordered : IsOrdered new
