use Rattle.std.proofs.Common.{◌≡◌, ◌++◌, drop}
use Rattle.frp_type.specs.Meaning.{labels_from}
use Rattle.frp_type.proofs.checking.labels.Given as goal

abbrev pub invariant-loop-i : goal.invariant-loop-i
invariant-loop-i l = l.all ++ labels_from l.i (drop l.i l.names) ≡ labels_from 0 l.fn.names
