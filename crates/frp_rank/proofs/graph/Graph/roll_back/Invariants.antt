use Rattle.std.proofs.Common.{◌≡◌, length, vec_len}
use Rattle.frp_rank.specs.Graph.{net_of, base_of, undo_all}
use Rattle.frp_rank.proofs.graph.Graph.roll_back.Given as goal

abbrev pub invariant-loop-change : goal.invariant-loop-change
invariant-loop-change l = record {
  base : undo_all l.self.changes.items (net_of l.self) ≡ base_of l.fn.self;
  places : l.self.places ≡ l.fn.self.places;
  links : l.self.links ≡ l.fn.self.links;
  slots : length l.self.slots.items ≡ l.fn.self.places.length;
}

abbrev pub decreases-loop-change : goal.decreases-loop-change
decreases-loop-change l = vec_len l.self.changes
