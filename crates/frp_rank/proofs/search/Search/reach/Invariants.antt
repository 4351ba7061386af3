use Rattle.std.proofs.Common.{◌≡◌, ◌<◌, ◌≤◌, ◌-◌, ℕ, length}
use Rattle.frp_rank.specs.Search.{IsSearch, AreMet, visit_at}
use Rattle.frp_rank.proofs.search.Search.reach.Given as goal

abbrev pub invariant-loop-done : goal.invariant-loop-done
invariant-loop-done l = record {
  slots : length l.slots.items ≡ length l.fn.slots.items;
  search : IsSearch l.self l.slots.items l.visits.items;
  done : l.done ≤ length l.visits.items;
  met : (j : ℕ) → j < l.done → AreMet l.self l.visits.items (visit_at l.visits.items j).place;
}

abbrev pub decreases-loop-done : goal.decreases-loop-done
decreases-loop-done l = length l.self.ranks.now.items - l.done
