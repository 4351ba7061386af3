use Rattle.std.proofs.Common.{◌≡◌, false}
use Rattle.frp_order.specs.Search.{is_unseen, mark_at, state_of, work, IsSearch, Keeps}
use Rattle.frp_order.proofs.search.Search.explore.Given as goal

abbrev pub invariant-loop-alloc : goal.invariant-loop-alloc
invariant-loop-alloc l = record {
  search : IsSearch l.rows (state_of l.self);
  keeps : Keeps (state_of l.fn.self) (state_of l.self);
  met : is_unseen (mark_at l.self.marks.items l.root) ≡ false;
}

abbrev pub decreases-loop-alloc : goal.decreases-loop-alloc
decreases-loop-alloc l = work (state_of l.self)
