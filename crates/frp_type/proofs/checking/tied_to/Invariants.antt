use Rattle.std.proofs.Common.{◌≡◌, drop}
use Rattle.frp_type.specs.Meaning.{tied_to}
use Rattle.frp_type.proofs.checking.tied_to.Given as goal

abbrev pub invariant-loop-tie : goal.invariant-loop-tie
invariant-loop-tie l = tied_to (drop l.tie-index l.ties) l.position ≡ tied_to l.fn.ties l.fn.position
