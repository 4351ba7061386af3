use Rattle.std.proofs.Common.{◌≡◌, ◌≤◌, ◌-◌, ◌++◌, drop, length}
use Rattle.frp_store.specs.Lists.{nodes_of}
use Rattle.frp_store.proofs.tables.Tables.copies.Given as goal

abbrev pub invariant-loop-place : goal.invariant-loop-place
invariant-loop-place l = record {
  inside : l.place ≤ length l.self.held.items;
  copied : l.born.items ++ drop l.place (nodes_of l.self.held.items) ≡ drop l.self.first (nodes_of l.self.held.items);
}

abbrev pub decreases-loop-place : goal.decreases-loop-place
decreases-loop-place l = length l.self.held.items - l.place
