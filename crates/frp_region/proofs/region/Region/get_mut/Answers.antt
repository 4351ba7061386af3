use Rattle.std.proofs.Common.{◌≡◌, ◌∙◌, ◌*◌, ◌-◌, rules, arith, ap, refl}
use Rattle.std.proofs.lemmas.List.{length-set}
use Rattle.frp_region.specs.Content.{Content}
use Rattle.frp_region.proofs.Places.{packed_write, joined_write, item_found}
use Rattle.frp_region.proofs.region.Region.get_mut.Goals as goal

-- two contents of equal parts
same_content : {T : Type 0} (c d : Content T) → c.items ≡ d.items → c.spare ≡ d.spare → c ≡ d
same_content c d e f = λ i. record { items = e i; spare = f i }

pub invariant_of-self-lent : goal.invariant_of-self-lent
invariant_of-self-lent g c w = (search (rules, packed_write), grind (arith, length-set))

pub returns : goal.returns
returns g c = (
  (refl, λ w. same_content _ _ (search (rules, joined_write)) (ap (λ n. 64 * n - c.self.inside.count) (length-set _ _ _) ∙ ap (λ v. v.spare) c.self.view_is)),
  record { writes_back = _; item = search (rules, item_found) },
)
