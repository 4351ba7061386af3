use Rattle.std.proofs.Common.{◌≡◌, vec_len}
use Rattle.frp_store.specs.Kept.{base_of, IsKept}
use Rattle.frp_store.proofs.tables.Tables.roll_back.Given as goal

abbrev pub invariant-loop-change : goal.invariant-loop-change
invariant-loop-change l = record {
  base : base_of l.self ≡ base_of l.fn.self;
  kept : IsKept l.self;
}

abbrev pub decreases-loop-change : goal.decreases-loop-change
decreases-loop-change l = vec_len l.self.changes
