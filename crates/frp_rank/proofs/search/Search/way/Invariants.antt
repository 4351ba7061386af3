use Rattle.std.proofs.Common.{◌≡◌, true, get_or}
use Rattle.frp_rank.specs.Chain.{is_linked, is_path, first_or, numbers}
use Rattle.frp_rank.specs.Graph.{live_links}
use Rattle.frp_rank.specs.Search.{has_visit}
use Rattle.frp_rank.proofs.search.Search.way.Given as goal

abbrev pub invariant-loop-at : goal.invariant-loop-at
invariant-loop-at l = record {
  path : is_path (is_linked (live_links l.self.edges.now.items)) (numbers l.places.items) l.at ≡ true;
  first : first_or (numbers l.places.items) l.at ≡ l.fn.to;
  visited : has_visit l.visits l.at ≡ true;
}

abbrev pub decreases-loop-at : goal.decreases-loop-at
decreases-loop-at l = get_or l.self.ranks.now.items l.at 0
