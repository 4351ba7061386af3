use Rattle.std.proofs.Common.{◌≡◌, ◌≤◌, ◌-◌}
use Rattle.frp_region.proofs.region.Region.reserve.Given as goal

-- the items stay, and there is no less room
abbrev pub invariant-loop-self : goal.invariant-loop-self
invariant-loop-self g l = (l.self.items ≡ l.fn.self.items) × (l.fn.self.spare ≤ l.self.spare)

-- the room that is still wanting
abbrev pub decreases-loop-self : goal.decreases-loop-self
decreases-loop-self g l = l.fn.n - l.self.spare
