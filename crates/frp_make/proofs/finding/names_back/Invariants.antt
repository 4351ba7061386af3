use Rattle.std.proofs.Common.{◌≡◌, take, map}
use Rattle.frp_make.specs.Firsts.{name_at}
use Rattle.frp_make.proofs.finding.names_back.Given as goal

abbrev pub invariant-loop-place : goal.invariant-loop-place
invariant-loop-place l = l.names.items ≡ map (name_at l.nodes) (take l.place-index l.places)
