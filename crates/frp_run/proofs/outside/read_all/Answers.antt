use Rattle.std.proofs.Common.{◌+◌, ◌≤◌, ◌<◌, length, arith}
use Rattle.frp_run.proofs.Reading.{took_past}
use Rattle.frp_run.proofs.outside.read_all.Goals as goal

pub returns-then-n-most-clause-size : goal.returns-then-n-most-clause-size
returns-then-n-most-clause-size g c = λ e.
    let within : c.in-Ok.n ≤ length c.read.new.buf = omega (arith, c.in-Ok.ensures.bound) in
    let past : c.args.most < length c.loop-all.all.items + c.in-Ok.n = omega arith in
    took_past _ _ _ c.loop-all.all.items c.read.new.buf c.in-Ok.n c.args.most c.loop-all.invariant.0 c.in-Ok.ensures.bytes within past
