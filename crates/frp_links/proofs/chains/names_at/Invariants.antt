use Rattle.std.proofs.Common.{◌≡◌, take, map}
use Rattle.frp_links.specs.Places.{name_at}
use Rattle.frp_links.proofs.chains.names_at.Given as goal

abbrev pub invariant-loop-place : goal.invariant-loop-place
invariant-loop-place g l = l.names.items ≡ map (name_at (g.V.View.nodes l.view)) (take l.place-index l.places)
