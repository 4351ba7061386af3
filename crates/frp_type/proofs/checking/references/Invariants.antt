use Rattle.std.proofs.Common.{◌≡◌, ◌++◌, drop}
use Rattle.frp_type.specs.Meaning.{references_from}
use Rattle.frp_type.proofs.checking.references.Given as goal

abbrev pub invariant-loop-i : goal.invariant-loop-i
invariant-loop-i l = l.all ++ references_from l.i (drop l.i l.names) ≡ references_from 0 l.fn.names
