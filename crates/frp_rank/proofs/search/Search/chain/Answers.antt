use Rattle.std.proofs.Common.{◌≡◌, ◌<◌, ◌≤◌, ◌++◌, ◌∷◌, [], ℕ, Bool, List, length, get_or, take, drop, true, sym, ap, ◌∙◌, subst, arith}
use Rattle.frp_base.specs.declared.place.Place.{Place}
use Rattle.frp_rank.specs.Chain.{is_linked, is_closed_chain, with_link, numbers}
use Rattle.frp_rank.specs.Graph.{live_links}
use Rattle.frp_rank.proofs.Paths.{numbers_push, numbers_append, numbers_take, numbers_drop, numbers_length}
use Rattle.frp_rank.proofs.Rings.{turned_is_closed}
use Rattle.frp_rank.proofs.search.Search.chain.Goals as goal

pub returns : goal.returns
returns c =
    let s = c.args.self.now in
    let linked : ℕ → ℕ → Bool = is_linked (live_links s.edges.now.items) in
    let way : List ℕ = numbers c.in_ok-places.places.items in
    let i : ℕ = c.number_of_least-least.result in
    let whole : numbers c.as_slice.result.now ≡ way ++ s.from ∷ [] = ap numbers (c.as_slice.ensures.value ∙ c.in_ok-push.ensures.items) ∙ numbers_push c.in_ok-places.places.items _ in
    let least = c.number_of_least-least.ensures.least in
    let inside : i < length (way ++ s.from ∷ []) = subst (λ ns. i < length ns) whole (rw (numbers_length c.as_slice.result.now) c.number_of_least-least.ensures.inside) in
    let lowest : (k : ℕ) → k < length (way ++ s.from ∷ []) → get_or (way ++ s.from ∷ []) i 0 ≤ get_or (way ++ s.from ∷ []) k 0 =
    subst (λ ns. (k : ℕ) → k < length ns → get_or ns i 0 ≤ get_or ns k 0) whole (λ k h. least k (rw (numbers_length c.as_slice.result.now) at h)) in
    let turned : numbers c.of.result ≡ drop i (way ++ s.from ∷ []) ++ take i (way ++ s.from ∷ []) =
    ap numbers (c.of.ensures ∙ c.rotate_left.ensures.items) ∙ numbers_append _ _ ∙ ap (λ ns. ns ++ numbers (take i c.push.new.self.items)) (numbers_drop i _) ∙ ap (λ ns. drop i (numbers c.push.new.self.items) ++ ns) (numbers_take i _)
    ∙ ap (λ ns. drop i ns ++ take i ns) (ap numbers (sym c.as_slice.ensures.value) ∙ whole) in
    subst (λ ns. is_closed_chain (with_link linked s.from c.args.to) ns ≡ true) (sym turned)
    (turned_is_closed linked (λ p. get_or s.ranks.now.items p 0) s.from c.args.to i way c.requires.able.lower c.in_ok-places.ensures.path c.in_ok-places.ensures.first inside lowest)
