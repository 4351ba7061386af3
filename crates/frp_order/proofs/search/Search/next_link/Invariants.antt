use Rattle.std.proofs.Common.{◌≡◌, ◌<◌, ◌≤◌, ◌-◌, ℕ, true, length, get_or}
use Rattle.frp_order.specs.Search.{is_done, mark_at}
use Rattle.frp_order.proofs.search.Search.next_link.Given as goal

abbrev pub invariant-loop-next : goal.invariant-loop-next
invariant-loop-next l = record {
  from : l.first ≤ l.next;
  passed : (i : ℕ) → l.first ≤ i → i < l.next → i < length l.row → is_done (mark_at l.self.marks.items (get_or l.row i 0)) ≡ true;
}

abbrev pub decreases-loop-next : goal.decreases-loop-next
decreases-loop-next l = length l.row - l.next
