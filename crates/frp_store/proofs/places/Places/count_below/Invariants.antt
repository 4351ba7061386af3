use Rattle.std.proofs.Common.{◌≡◌, ◌≤◌, length, take}
use Rattle.frp_store.specs.Places.{numbers, count_below}
use Rattle.frp_store.proofs.places.Places.count_below.Given as goal

abbrev pub invariant-loop-number : goal.invariant-loop-number
invariant-loop-number l = record {
  inside : l.number ≤ length l.self-inside.places.items;
  counted : count_below l.place (take l.number (numbers l.self-inside.places.items)) ≡ count_below l.place (numbers l.self-inside.places.items);
}

abbrev pub decreases-loop-number : goal.decreases-loop-number
decreases-loop-number l = l.number
