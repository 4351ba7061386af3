use Rattle.std.proofs.Common.{◌≡◌, ◌<◌, length, ◌∙◌, subst}
use Rattle.frp_links.specs.Places.{IsLeast}
use Rattle.frp_links.proofs.chains.turned.Goals as goal

pub returns : goal.returns
returns c =
    let ns = c.args.names.items in
    let i = c.number_of_least-least.result in
    let same : c.as_slice.result.now ≡ ns = c.as_slice.ensures.value in
    (i, subst (λ xs. i < length xs) same c.number_of_least-least.ensures.inside, subst (λ xs. IsLeast xs i) same c.number_of_least-least.ensures.least, c.of.ensures ∙ c.rotate_left.ensures.items)
