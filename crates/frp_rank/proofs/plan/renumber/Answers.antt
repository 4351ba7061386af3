use Rattle.std.proofs.Common.{◌≡◌, ◌++◌, ◌∷◌, ◌+◌, [], ℕ, List, append_assoc, get_or, drop, refl, sym, ap, ◌∙◌}
use Rattle.std.proofs.lemmas.List.Sorted.{IsNonDecreasingBy-from_sort}
use Rattle.frp_rank.specs.declared.write.Write.{Write}
use Rattle.frp_rank.specs.Laws.{lower_count}
use Rattle.frp_rank.specs.Plans.{map_index}
use Rattle.frp_rank.proofs.Renumbering.{lower_count_permuted}
use Rattle.frp_rank.proofs.Writing.{map_index_step}
use Rattle.frp_rank.proofs.plan.renumber.Goals as goal

pub count_lower-requires : goal.count_lower-requires
count_lower-requires c = rw c.as_slice.ensures.value (IsNonDecreasingBy-from_sort (λ x. x) _ c.sort_unstable.ensures.sorted)

pub loop-place-preserved : goal.loop-place-preserved
loop-place-preserved c =
    let ranks : List ℕ = c.args.ranks.now in
    let place : ℕ = c.loop-place.place in
    let rank : ℕ = get_or ranks place 0 in
    let count : ℕ → ℕ → Write = λ i r. record { place = i; rank = lower_count ranks r } in
    let permuted = rw c.in_ok-sorted.ensures.items at c.sort_unstable.ensures.permutation in
    let counted : c.count_lower.result ≡ lower_count ranks rank = c.count_lower.ensures ∙ ap (λ xs. lower_count xs rank) c.as_slice.ensures.value ∙ lower_count_permuted ranks c.sort_unstable.new.self.items rank permuted in
    let pushed : c.push.new.self.items ≡ c.loop-place.writes.items ++ count place rank ∷ [] = c.in_ok-push.ensures.items ∙ ap (λ r. c.loop-place.writes.items ++ (record { place = place; rank = r }) ∷ []) counted in
    let step : map_index count place (drop place ranks) ≡ count place rank ∷ map_index count (place + 1) (drop (place + 1) ranks) = map_index_step count place ranks 0 c.loop-place-test.true in
    ap (λ ws. ws ++ map_index count (place + 1) (drop (place + 1) ranks)) pushed
    ∙ append_assoc c.loop-place.writes.items (count place rank ∷ []) (map_index count (place + 1) (drop (place + 1) ranks))
    ∙ ap (λ ws. c.loop-place.writes.items ++ ws) (sym step) ∙ c.loop-place.invariant
