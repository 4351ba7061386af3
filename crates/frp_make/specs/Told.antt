-- What a search at its end tells.
use Rattle.std.specs.Prelude.{◌≡◌, ℕ, suc, ◌<◌, ◌-◌, Bool, true, false, List, [], length, map, reverse, slice_index_or}
use Rattle.std.specs.Ordering.{is_lt}
use Rattle.frp_base.specs.declared.name.Name.{Name}
use Rattle.frp_base.specs.Name.{name_cmp}
use Rattle.frp_graph.specs.Links.{is_closed_chain}
use Rattle.frp_order.specs.Rings.{IsRing, IsOrder}
use Rattle.frp_make.specs.declared.made.FirstOut.{FirstOut}
use Rattle.frp_make.specs.declared.made.FirstOut.TheVariants.{Made, Chain}
use Rattle.frp_make.specs.Firsts.{name_at}
use Rattle.frp_make.specs.Search.{State}

-- distinct names, each linked to the next and the last to the first
pub record IsNameRing (linked : Name → Name → Bool) (ns : List Name) : Type 0 where
  pub once : (i j : ℕ) → i < length ns → j < length ns → slice_index_or ns i [] ≡ slice_index_or ns j [] → i ≡ j
  pub next : (i : ℕ) → suc i < length ns → linked (slice_index_or ns i []) (slice_index_or ns (suc i) []) ≡ true
  pub round : linked (slice_index_or ns (length ns - 1) []) (slice_index_or ns 0 []) ≡ true

-- no name is less than the one of this number
abbrev pub IsLeast : List Name → ℕ → Type 0
IsLeast names i = (k : ℕ) → k < length names → is_lt (name_cmp (slice_index_or names k []) (slice_index_or names i [])) ≡ false

-- the waiting places have an order
pub record HasOrder (s : State) : Type 0 where
  pub order : List ℕ
  pub ordered : IsOrder s.waiting order

-- they have a ring, whose names, last place first, are these, turned to begin with the least
pub record HasRing (s : State) (names : List Name) : Type 0 where
  pub ring : List ℕ
  pub is_ring : IsRing s.waiting ring
  pub closes : (linked : Name → Name → Bool) → IsNameRing linked (reverse (map (name_at s.nodes) ring)) → is_closed_chain linked names ≡ true

abbrev pub Tells : State → FirstOut → Type 0
Tells s (Made nodes) = (nodes ≡ s.nodes) × HasOrder s
Tells s (Chain nodes names) = (nodes ≡ s.nodes) × HasRing s names
