use Rattle.std.proofs.Common.{◌≡◌, ◌≤◌, ◌-◌, length}
use Rattle.frp_io.specs.Outside.{Took}
use Rattle.frp_run.proofs.outside.read_all.Given as goal

abbrev pub invariant-loop-all : goal.invariant-loop-all
invariant-loop-all g l =
    let s = g.S.Source in
    (Took (s.rest l.fn.source) (s.rest l.source) l.all.items) × (length l.all.items ≤ l.most) × (s.faults l.fn.source ≤ s.faults l.source) × (length l.buf ≡ 4096)

abbrev pub decreases-loop-all : goal.decreases-loop-all
decreases-loop-all g l = l.most - length l.all.items
