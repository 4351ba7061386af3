use Rattle.std.proofs.Common.{◌≡◌, ◌+◌, ◌≤◌, length, drop, vec_len, vec_capacity}
use Rattle.frp_rank.specs.Graph.{base_of}
use Rattle.frp_rank.specs.Plans.{written}
use Rattle.frp_rank.proofs.graph.Graph.write_ranks.Given as goal

abbrev pub invariant-loop-write : goal.invariant-loop-write
invariant-loop-write l = record {
  rest : l.self ≡ record l.fn.self { ranks = l.self.ranks; changes = l.self.changes };
  same : length l.self.ranks.items ≡ length l.fn.self.ranks.items;
  ranks : written l.self.ranks.items (drop l.write-index l.writes) ≡ written l.fn.self.ranks.items l.fn.writes;
  base : base_of l.self ≡ base_of l.fn.self;
  count : vec_len l.self.changes ≡ vec_len l.fn.self.changes + l.write-index;
  capacity : vec_capacity l.self.changes ≡ vec_capacity l.fn.self.changes;
}
