use Rattle.std.proofs.Common.{◌≡◌, ◌++◌, drop, map}
use Rattle.frp_write.specs.Writing.{lines}
use Rattle.frp_write.proofs.file.write_lines.Given as goal

abbrev pub invariant-loop-form : goal.invariant-loop-form
invariant-loop-form g l = l.text ++ lines (map g.T.Written.tokens (drop l.form-index l.forms)) ≡ l.fn.text ++ lines (map g.T.Written.tokens l.fn.forms)
