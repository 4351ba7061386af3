use Rattle.std.proofs.Common.{◌≡◌, ◌++◌, drop}
use Rattle.frp_expr.proofs.raw.+copy_raw.Given as goal

abbrev pub invariant-copy_raws-loop-raw : goal.invariant-copy_raws-loop-raw
invariant-copy_raws-loop-raw l = l.all ++ drop l.raw-index l.raws ≡ l.fn.raws
