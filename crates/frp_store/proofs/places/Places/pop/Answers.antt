use Rattle.std.proofs.Common.{◌-◌, ap, ◌∙◌}
use Rattle.frp_store.specs.Places.{numbers}
use Rattle.frp_store.proofs.Rising.{still_rising, rising_shorter, numbers_taken}
use Rattle.frp_store.proofs.places.Places.pop.Goals as goal

pub invariant_of-self : goal.invariant_of-self
invariant_of-self c =
    let ps = c.self.inside.places in
    still_rising _ _ (ap numbers c.pop.ensures.rest ∙ numbers_taken (ps.len - 1) ps.items) (rising_shorter (ps.len - 1) (numbers ps.items) c.self.invariant)
