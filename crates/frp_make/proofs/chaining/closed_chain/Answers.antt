use Rattle.std.proofs.Common.{◌≡◌, ◌<◌, ◌++◌, true, length, take, drop, sym, ◌∙◌, subst}
use Rattle.frp_graph.specs.Links.{is_closed_chain}
use Rattle.frp_make.specs.Told.{IsLeast}
use Rattle.frp_make.proofs.Turning.{turned_closes}
use Rattle.frp_make.proofs.chaining.closed_chain.Goals as goal

pub returns : goal.returns
returns c linked ring =
    let ns = c.args.ring.items in
    let i = c.number_of_least-least.result in
    let same : c.as_slice.result.now ≡ ns = c.as_slice.ensures.value in
    let inside : i < length ns = subst (λ xs. i < length xs) same c.number_of_least-least.ensures.inside in
    let least : IsLeast ns i = subst (λ xs. IsLeast xs i) same c.number_of_least-least.ensures.least in
    let turned : c.of.result ≡ drop i ns ++ take i ns = c.of.ensures ∙ c.rotate_left.ensures.items in
    subst (λ ks. is_closed_chain linked ks ≡ true) (sym turned) (turned_closes linked ns ring i inside least)
