use Rattle.std.proofs.Common.{◌≡◌, ◌<◌, ◌∙◌, ◌-◌, ◌/◌, arith, length, take, ap, sym, set}
use Rattle.std.proofs.lemmas.List.{length-set}
use Rattle.frp_region.specs.Chunks.{chunk_items, ArePacked}
use Rattle.frp_region.proofs.Packing.{packed_length, packed_room}
use Rattle.frp_region.proofs.Places.{packed_shortened, joined_shortened}
use Rattle.frp_region.proofs.region.Region.shorten.Given.{Over}
use Rattle.frp_region.proofs.region.Region.shorten.Goals as goal

module _ (g : Over) (c : goal.After-self-2-1 g) where
  total : length c.args.self.now.items ≡ c.self.inside.count
  total = ap (λ v. length v.items) (sym c.self.view_is) ∙ packed_length _ _ c.self.invariant.0

  fewer : c.max-count.result < c.self.inside.count
  fewer = omega (arith, total, c.requires, c.max-count.ensures)

  packed : ArePacked (set c.self.inside.chunks.items ((c.self.inside.count - 1) / 64) c.truncate.new.self) c.max-count.result
  packed = packed_shortened _ _ c.self.invariant.0 _ _ _ fewer (omega (arith, c.max-count.ensures)) c.index_mut.ensures.value c.truncate.ensures

  left : length (chunk_items (set c.self.inside.chunks.items ((c.self.inside.count - 1) / 64) c.truncate.new.self)) ≡ c.max-count.result
  left = packed_length _ _ packed

pub invariant_of-self : goal.invariant_of-self
invariant_of-self g c = (packed g c, grind (arith, length-set))

pub returns-clause-fewer : goal.returns-clause-fewer
returns-clause-fewer g c = omega (arith, left g c, total g c, fewer g c)

pub returns-clause-least : goal.returns-clause-least
returns-clause-least g c = omega (arith, left g c, c.max-count.ensures)

pub returns-clause-items : goal.returns-clause-items
returns-clause-items g c =
    rw (left g c) (joined_shortened _ _ c.self.invariant.0 _ _ _ (fewer g c) (omega (arith, c.max-count.ensures)) c.index_mut.ensures.value c.truncate.ensures
    ∙ ap (λ v. take c.max-count.result v.items) c.self.view_is)

pub returns-clause-spare : goal.returns-clause-spare
returns-clause-spare g c =
    omega (arith, left g c, total g c, fewer g c, ap (λ v. v.spare) c.self.view_is, length-set c.self.inside.chunks.items ((c.self.inside.count - 1) / 64) c.truncate.new.self, packed_room _ _ c.self.invariant.0)
