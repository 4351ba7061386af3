use Rattle.std.proofs.Common.{◌≡◌, ◌≢◌, ◌<◌, ◌≤◌, ℕ, length}
use Rattle.frp_rank.specs.Graph.{start_of, end_of, latest}
use Rattle.frp_rank.proofs.graph.Graph.find.Given as goal

abbrev pub invariant-loop-at : goal.invariant-loop-at
invariant-loop-at l = record {
  inside : l.at ≤ length l.self.edges.items;
  last : latest (start_of l.self.edges.items) l.at l.from ≡ l.at;
  none : (i : ℕ) → l.at ≤ i → i < length l.self.edges.items → start_of l.self.edges.items i ≡ l.from → end_of l.self.edges.items i ≢ l.to;
}

abbrev pub decreases-loop-at : goal.decreases-loop-at
decreases-loop-at l = l.at
