use Rattle.std.proofs.Common.{◌≡◌, ◌≤◌, ◌+◌, length, take}
use Rattle.frp_region.proofs.region.Region.cut.Given as goal

-- the front that stays is as it was, and what was cut is room
abbrev pub invariant-loop-m : goal.invariant-loop-m
invariant-loop-m g l =
    (l.fn.m.length ≤ length l.self.items) × (take l.fn.m.length l.self.items ≡ take l.fn.m.length l.fn.self.items)
    × (l.self.spare + length l.self.items ≡ l.fn.self.spare + length l.fn.self.items)

abbrev pub decreases-loop-m : goal.decreases-loop-m
decreases-loop-m g l = length l.self.items
