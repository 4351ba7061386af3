-- What a link does to ranks.
use Rattle.std.specs.Prelude.{◌≡◌, ℕ, true, ◌<◌, ◌^◌, List, [], ◌∷◌, ◌+◌, Bool, length, slice_index, slice_set, All, map, nat_le}
use Rattle.std.specs.List.{list_any}
use Rattle.frp_rank.specs.declared.plan.Plan.{Plan}
use Rattle.frp_rank.specs.declared.plan.Plan.TheVariants.{Closed, Open}
use Rattle.frp_rank.specs.declared.write.Write.{Write}
use Rattle.frp_rank.specs.declared.visit.Visit.{Visit}
use Rattle.frp_rank.specs.Laws.{lower_count}
use Rattle.frp_rank.specs.Chain.{is_linked, is_closed_chain, with_link, numbers}
use Rattle.frp_rank.specs.Order.{Order, LeadsLower, RaisesAbove, RenumbersAt}

-- the ranks once they are written, one after another
abbrev pub written : List ℕ → List Write → List ℕ
written ranks [] = ranks
written ranks (w ∷ ws) = written (slice_set ranks w.place w.rank) ws

-- each is for a place below this number
abbrev pub AreInside : List Write → ℕ → Type 0
AreInside writes places = All (λ (w : Write). w.place < places) writes

-- with these ranks all links lead lower, the new one too
pub record FitsOrder (old : Order) (from to : ℕ) (new : List ℕ) : Type 0 where
  pub ranks : (raised : List ℕ) × RaisesAbove old from raised × RenumbersAt raised new
  pub lower : LeadsLower (with_link (is_linked old.links) from to) (λ p. slice_index new p)
  pub small : (p : ℕ) → slice_index new p < 2 ^ 32
  pub length_kept : length new ≡ length old.ranks

-- a plan names the chain that the link closes, or writes ranks that fit
abbrev pub IsPlan : Order → ℕ → ℕ → Plan → Type 0
IsPlan old from to (Closed chain) = is_closed_chain (with_link (is_linked old.links) from to) (numbers chain) ≡ true
IsPlan old from to (Open writes) = AreInside writes.items (length old.ranks) × FitsOrder old from to (written old.ranks writes.items)

-- the new rank of each visited place
abbrev pub risen_writes : List ℕ → ℕ → List Visit → List Write
risen_writes ranks by = map (λ (v : Visit). record { place = v.place; rank = slice_index ranks v.place + by })

-- whether a rank reaches the limit
abbrev pub has_high_write : List Write → Bool
has_high_write writes = list_any (λ (w : Write). nat_le (2 ^ 32) w.rank) writes

-- each rank with its place, counted from this one
abbrev pub map_index : (ℕ → ℕ → Write) → ℕ → List ℕ → List Write
map_index f i [] = []
map_index f i (r ∷ rs) = f i r ∷ map_index f (i + 1) rs

-- for each place the number of places that have a lower rank
abbrev pub lower_writes : List ℕ → List Write
lower_writes ranks = map_index (λ i r. record { place = i; rank = lower_count ranks r }) 0 ranks
