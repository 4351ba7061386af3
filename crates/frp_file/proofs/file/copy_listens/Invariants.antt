use Rattle.std.proofs.Common.{◌≡◌, ◌++◌, drop}
use Rattle.frp_file.proofs.file.copy_listens.Given as goal

abbrev pub invariant-loop-listen : goal.invariant-loop-listen
invariant-loop-listen l = l.all ++ drop l.listen-index l.listens ≡ l.fn.listens
