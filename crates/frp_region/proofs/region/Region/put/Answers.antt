use Rattle.std.proofs.Common.{rules, arith}
use Rattle.std.proofs.lemmas.List.{length-set}
use Rattle.frp_region.proofs.Places.{packed_pushed}
use Rattle.frp_region.proofs.region.Region.put.Goals as goal

pub invariant_of-self : goal.invariant_of-self
invariant_of-self g c = (search (rules, packed_pushed), grind (arith, length-set))
