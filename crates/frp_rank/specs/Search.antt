-- The search for the places that rise with one: those that lead to it by links that are too close.
use Rattle.std.specs.Prelude.{◌≡◌, ℕ, Bool, true, false, ◌<◌, ◌≤◌, ◌==◌, ◌+◌, ◌&&◌, ◌⊎◌, List, [], ◌∷◌, length, slice_index, slice_index_or, nat_le, ◌^◌}
use Rattle.std.specs.List.{list_any}
use Rattle.frp_rank.specs.declared.edge.Edge.{Edge}
use Rattle.frp_rank.specs.declared.visit.Visit.{Visit}
use Rattle.frp_rank.specs.Chain.{Link, is_linked}
use Rattle.frp_rank.specs.declared.search.Search.{Search}
use Rattle.frp_rank.specs.Order.{Order, LeadsLower}
use Rattle.frp_rank.specs.Graph.{edge_at, start_of, end_of, latest, live_links, AreFiled}

-- whether the place was visited
abbrev pub has_visit : List Visit → ℕ → Bool
has_visit visits p = list_any (λ (v : Visit). v.place == p) visits

abbrev pub no_visit : Visit
no_visit = record { place = 0; through = 0 }

abbrev pub visit_at : List Visit → ℕ → Visit
visit_at visits j = slice_index_or visits j no_visit

-- the visit is of the first place, or leads on to another visited place by a link
abbrev pub LeadsOn : List Link → ℕ → List Visit → Visit → Type 0
LeadsOn links from visits v = (v.place ≡ from) ⊎ ((is_linked links v.place v.through ≡ true) × (has_visit visits v.through ≡ true))

-- what a search may rely on: links lead lower, ranks are small, and each place knows its last edges
pub record IsSearchable (s : Search) : Type 0 where
  pub filed : AreFiled s.edges.now.items (length s.ranks.now.items)
  pub in_length : length s.last_in.now.items ≡ length s.ranks.now.items
  pub last_in : (p : ℕ) → p < length s.ranks.now.items → slice_index s.last_in.now.items p ≡ latest (end_of s.edges.now.items) (length s.edges.now.items) p
  pub lower : LeadsLower (is_linked (live_links s.edges.now.items)) (λ p. slice_index s.ranks.now.items p)
  pub small : (p : ℕ) → slice_index s.ranks.now.items p < 2 ^ 32
  pub few : length s.ranks.now.items < 2 ^ 32
  pub start : s.from < length s.ranks.now.items
  pub by : s.by ≤ 2 ^ 32

-- what is true while places are visited: each visited place knows the number of its visit, and leads on
pub record IsSearch (s : Search) (slots : List ℕ) (visits : List Visit) : Type 0 where
  pub slots_length : length slots ≡ length s.ranks.now.items
  pub start : has_visit visits s.from ≡ true
  pub inside : (j : ℕ) → j < length visits → (visit_at visits j).place < length s.ranks.now.items
  pub slot : (j : ℕ) → j < length visits → slice_index slots (visit_at visits j).place ≡ j
  pub hops : (j : ℕ) → j < length visits → LeadsOn (live_links s.edges.now.items) s.from visits (visit_at visits j)

-- whether the edge is a link that would not lead lower if its end rose alone
abbrev pub is_close : List ℕ → ℕ → Edge → Bool
is_close ranks by e = e.live && nat_le (slice_index ranks e.from) (slice_index ranks e.to + by)

-- where the edge of this number is too close, its start was visited
abbrev pub IsMet : Search → List Visit → ℕ → Type 0
IsMet s visits i = is_close s.ranks.now.items s.by (edge_at s.edges.now.items i) ≡ true → has_visit visits (start_of s.edges.now.items i) ≡ true

-- each place that is linked to this one too closely was visited
abbrev pub AreMet : Search → List Visit → ℕ → Type 0
AreMet s visits p = (i : ℕ) → i < length s.edges.now.items → end_of s.edges.now.items i ≡ p → IsMet s visits i

-- and so of each visited place
abbrev pub AreAllMet : Search → List Visit → Type 0
AreAllMet s visits = (p : ℕ) → has_visit visits p ≡ true → AreMet s visits p

-- the visits go on from those before
pub record Grows (old new : List Visit) : Type 0 where
  pub longer : length old ≤ length new
  pub same : (j : ℕ) → j < length old → visit_at new j ≡ visit_at old j

-- the ranks and links that are searched
abbrev pub searched : Search → Order
searched s = record { ranks = s.ranks.now.items; links = live_links s.edges.now.items }
