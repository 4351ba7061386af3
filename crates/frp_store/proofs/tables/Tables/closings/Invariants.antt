use Rattle.std.proofs.Common.{◌≤◌, ◌-◌, take, length}
use Rattle.frp_store.specs.Closing.{ArePrepared}
use Rattle.frp_store.proofs.tables.Tables.closings.Given as goal

abbrev pub invariant-loop-number : goal.invariant-loop-number
invariant-loop-number l = record {
  inside : l.number ≤ length l.self.fired.items;
  prepared : ArePrepared l.self.held.items (take l.number l.self.fired.items) l.closings.items;
}

abbrev pub decreases-loop-number : goal.decreases-loop-number
decreases-loop-number l = length l.self.fired.items - l.number
