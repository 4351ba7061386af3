use Rattle.std.proofs.Common.{◌≡◌, ◌<◌, ◌≤◌, ℕ, length}
use Rattle.frp_rank.specs.Graph.{end_of, latest}
use Rattle.frp_rank.specs.Search.{IsSearch, IsMet, Grows}
use Rattle.frp_rank.proofs.search.Search.meet_all.Given as goal

abbrev pub invariant-loop-at : goal.invariant-loop-at
invariant-loop-at l = record {
  slots : length l.slots.items ≡ length l.fn.slots.items;
  search : IsSearch l.self l.slots.items l.visits.items;
  grows : Grows l.fn.visits.items l.visits.items;
  inside : l.at ≤ length l.self.edges.now.items;
  last : latest (end_of l.self.edges.now.items) l.at l.place ≡ l.at;
  met : (i : ℕ) → l.at ≤ i → i < length l.self.edges.now.items → end_of l.self.edges.now.items i ≡ l.place → IsMet l.self l.visits.items i;
}

abbrev pub decreases-loop-at : goal.decreases-loop-at
decreases-loop-at l = l.at
