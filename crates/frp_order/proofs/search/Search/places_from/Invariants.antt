use Rattle.std.proofs.Common.{◌≡◌, take, drop, map}
use Rattle.frp_order.specs.declared.visit.Visit.{Visit}
use Rattle.frp_order.proofs.search.Search.places_from.Given as goal

abbrev pub invariant-loop-visit : goal.invariant-loop-visit
invariant-loop-visit l = l.places.items ≡ map (λ (v : Visit). v.place) (take l.visit-index (drop l.at l.self.path.items))
