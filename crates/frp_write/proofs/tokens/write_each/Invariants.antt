use Rattle.std.proofs.Common.{◌≡◌, ◌++◌, drop, map}
use Rattle.frp_write.specs.Writing.{run_together}
use Rattle.frp_write.proofs.tokens.write_each.Given as goal

abbrev pub invariant-loop-form : goal.invariant-loop-form
invariant-loop-form g l = l.out ++ run_together (map g.T.Written.tokens (drop l.form-index l.forms)) ≡ l.fn.out ++ run_together (map g.T.Written.tokens l.fn.forms)
