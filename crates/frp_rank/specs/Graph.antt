-- How the links are kept: one list of edges, and for each place the last edge that ends there and the last that starts there; each edge
-- knows the one before it. What undoes a change.
use Rattle.std.specs.Prelude.{◌≡◌, ℕ, Bool, true, false, ◌<◌, ◌≤◌, ◌==◌, List, [], ◌∷◌, ◌++◌, length, slice_index, slice_index_or, slice_set, take, suc, zero, if◌then◌else◌, Option, Some, None}
use Rattle.frp_rank.specs.declared.edge.Edge.{Edge}
use Rattle.frp_rank.specs.declared.change.Change.{Change}
use Rattle.frp_rank.specs.declared.change.Change.TheVariants.{Ranked, EndedBy, StartedBy, Edged}
use Rattle.frp_rank.specs.declared.graph.Graph.{Graph}
use Rattle.frp_rank.specs.Chain.{Link}
use Rattle.frp_rank.specs.Order.{Order, IsOrdered}

-- the lists of a graph
pub record Net : Type 0 where
  pub ranks : List ℕ
  pub last_in : List ℕ
  pub last_out : List ℕ
  pub edges : List Edge

abbrev pub net_of : Graph → Net
net_of g = record { ranks = g.ranks.items; last_in = g.last_in.items; last_out = g.last_out.items; edges = g.edges.items }

-- the links of the edges that are live
abbrev pub live_links : List Edge → List Link
live_links [] = []
live_links (e ∷ es) = if e.live then (record { from = e.from; to = e.to }) ∷ live_links es else live_links es

abbrev pub order_of : Net → Order
order_of n = record { ranks = n.ranks; links = live_links n.edges }

-- an edge that stands past the last
abbrev pub no_edge : Edge
no_edge = record { from = 0; to = 0; live = false; earlier_in = 0; earlier_out = 0 }

abbrev pub edge_at : List Edge → ℕ → Edge
edge_at edges i = slice_index_or edges i no_edge

abbrev pub start_of : List Edge → ℕ → ℕ
start_of edges i = (edge_at edges i).from

abbrev pub end_of : List Edge → ℕ → ℕ
end_of edges i = (edge_at edges i).to

-- one more than the last number below n that has this key, or 0 where none has
abbrev pub latest : (ℕ → ℕ) → ℕ → ℕ → ℕ
latest key zero k = 0
latest key (suc n) k = if key n == k then suc n else latest key n k

-- the edges are between places, each two places have at most one, and each edge knows the one before it with the same end, and with the same start
pub record AreFiled (edges : List Edge) (places : ℕ) : Type 0 where
  pub starts : (i : ℕ) → i < length edges → start_of edges i < places
  pub ends : (i : ℕ) → i < length edges → end_of edges i < places
  pub once : (i j : ℕ) → i < length edges → j < length edges → start_of edges i ≡ start_of edges j → end_of edges i ≡ end_of edges j → i ≡ j
  pub earlier_in : (i : ℕ) → i < length edges → (edge_at edges i).earlier_in ≡ latest (end_of edges) i (end_of edges i)
  pub earlier_out : (i : ℕ) → i < length edges → (edge_at edges i).earlier_out ≡ latest (start_of edges) i (start_of edges i)

-- links lead lower, and each place knows its last edges
pub record IsSound (n : Net) : Type 0 where
  pub ordered : IsOrdered (order_of n)
  pub filed : AreFiled n.edges (length n.ranks)
  pub in_length : length n.last_in ≡ length n.ranks
  pub out_length : length n.last_out ≡ length n.ranks
  pub last_in : (p : ℕ) → p < length n.ranks → slice_index n.last_in p ≡ latest (end_of n.edges) (length n.edges) p
  pub last_out : (p : ℕ) → p < length n.ranks → slice_index n.last_out p ≡ latest (start_of n.edges) (length n.edges) p

-- what undoes a change: the old value is written back
abbrev pub undo : Change → Net → Net
undo (Ranked p r) n = record n { ranks = slice_set n.ranks p r }
undo (EndedBy p e) n = record n { last_in = slice_set n.last_in p e }
undo (StartedBy p e) n = record n { last_out = slice_set n.last_out p e }
undo (Edged i e) n = record n { edges = slice_set n.edges i e }

-- the oldest change is undone last
abbrev pub undo_all : List Change → Net → Net
undo_all [] n = n
undo_all (c ∷ cs) n = undo c (undo_all cs n)

-- the first places and edges alone
abbrev pub cut_to : ℕ → ℕ → Net → Net
cut_to places edges n = record { ranks = take places n.ranks; last_in = take places n.last_in; last_out = take places n.last_out; edges = take edges n.edges }

-- as things were at the last commit
abbrev pub base_of : Graph → Net
base_of g = undo_all g.changes.items (cut_to g.places.length g.links.length (net_of g))

-- what is true of a graph between two calls
pub record IsKept (g : Graph) : Type 0 where
  pub now : IsSound (net_of g)
  pub base : IsSound (base_of g)
  pub places : g.places.length ≤ length g.ranks.items
  pub links : g.links.length ≤ length g.edges.items
  pub slots : length g.slots.items ≡ length g.ranks.items

-- with a place more, at rank 0 and without edges
abbrev pub with_empty_place : Net → Net
with_empty_place n = record n { ranks = n.ranks ++ 0 ∷ []; last_in = n.last_in ++ 0 ∷ []; last_out = n.last_out ++ 0 ∷ [] }

-- what is found is the number of an edge between the two places; where nothing is, there is none
abbrev pub Finds : List Edge → ℕ → ℕ → Option ℕ → Type 0
Finds edges from to None = (i : ℕ) → i < length edges → start_of edges i ≡ from → end_of edges i ≡ to → ⊥
Finds edges from to (Some i) = (i < length edges) × (start_of edges i ≡ from) × (end_of edges i ≡ to)

-- the edges with one of them made a link, or none
abbrev pub with_live : List Edge → ℕ → Bool → List Edge
with_live edges i live = slice_set edges i (record (edge_at edges i) { live = live })
