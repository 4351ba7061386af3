use Rattle.std.proofs.Common.{◌≡◌, ◌++◌, ◌∷◌, [], get_or, take, sym, ap, ◌∙◌}
use Rattle.std.proofs.lemmas.Option.{get_or_from_slice_get, slice_get_within}
use Rattle.std.proofs.lemmas.Grind.{take_at_read}
use Rattle.frp_rank.proofs.plan.copied.Goals as goal

pub loop-place-preserved : goal.loop-place-preserved
loop-place-preserved c =
    let ranks = c.args.ranks.now.items in
    let place = c.loop-place.place in
    let v = c.get.result.now in
    let e : get_or ranks place v ≡ v = get_or_from_slice_get ranks place v v c.get.ensures in
    c.in_ok-push.ensures.items ∙ ap (λ l. l ++ v ∷ []) c.loop-place.invariant ∙ ap (λ x. take place ranks ++ x ∷ []) (sym e) ∙ sym (take_at_read ranks place v (slice_get_within ranks place v c.get.ensures)).1
