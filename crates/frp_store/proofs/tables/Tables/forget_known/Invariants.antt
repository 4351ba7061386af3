use Rattle.std.proofs.Common.{◌≡◌, [], length}
use Rattle.frp_store.specs.Lists.{lists_of}
use Rattle.frp_store.specs.Kept.{IsKeptBy}
use Rattle.frp_store.proofs.tables.Tables.forget_known.Given as goal

abbrev pub invariant-loop-place : goal.invariant-loop-place
invariant-loop-place l = record {
  kept : IsKeptBy [] l.self;
  lists : lists_of l.self ≡ lists_of l.fn.self;
  changes : l.self.changes ≡ l.fn.self.changes;
}

abbrev pub decreases-loop-place : goal.decreases-loop-place
decreases-loop-place l = length l.self.edges.wanting.items
