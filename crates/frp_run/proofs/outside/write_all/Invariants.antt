use Rattle.std.proofs.Common.{◌-◌, ◌≤◌, length, take}
use Rattle.frp_io.specs.Outside.{Gave}
use Rattle.frp_run.proofs.outside.write_all.Given as goal

abbrev pub invariant-loop-done : goal.invariant-loop-done
invariant-loop-done g l =
    let k = g.K.Sink in
    (Gave (k.held l.fn.sink) (k.held l.sink) (take l.done l.bytes)) × (l.done ≤ length l.bytes) × (k.faults l.fn.sink ≤ k.faults l.sink)

abbrev pub decreases-loop-done : goal.decreases-loop-done
decreases-loop-done g l = length l.bytes - l.done
