use Rattle.std.proofs.Common.{◌≡◌, ◌≤◌, ◌<◌, ◌-◌, ℕ, true, length, Some}
use Rattle.std.specs.Prelude.{slice_get}
use Rattle.frp_base.specs.Time.{time_eq}
use Rattle.frp_graph.specs.declared.trace.Moment.{Moment}
use Rattle.frp_store.proofs.tables.Tables.moment_at.Given as goal

abbrev pub invariant-loop-low : goal.invariant-loop-low
invariant-loop-low l = record {
  inside : l.high ≤ length l.self.past.items;
  order : l.low ≤ l.high;
  between : (k : ℕ) (p : Moment) → slice_get l.self.past.items k ≡ Some p → time_eq p.time l.time ≡ true → (l.low ≤ k) × (k < l.high);
}

abbrev pub decreases-loop-low : goal.decreases-loop-low
decreases-loop-low l = l.high - l.low
