use Rattle.std.proofs.Common.{◌≡◌, ◌<◌, ℕ, true, []}
use Rattle.frp_order.specs.Search.{is_done, mark_at, state_of, IsSearch}
use Rattle.frp_order.proofs.search.sort.Given as goal

abbrev pub invariant-loop-root : goal.invariant-loop-root
invariant-loop-root l = record {
  search : IsSearch l.rows (state_of l.search);
  path : l.search.path.items ≡ [];
  done : (p : ℕ) → p < l.root → is_done (mark_at l.search.marks.items p) ≡ true;
}
