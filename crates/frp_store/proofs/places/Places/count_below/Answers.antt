use Rattle.std.proofs.Common.{◌<◌, ◌≤◌, ◌-◌, length, refl, sym, ap, ◌∙◌, subst, arith}
use Rattle.std.proofs.lemmas.List.{length-map}
use Rattle.std.proofs.lemmas.Option.{slice_get_read}
use Rattle.frp_store.specs.Places.{PlaceList, numbers, number_of, count_below}
use Rattle.frp_store.proofs.Rising.{count_step, count_end, number_got}
use Rattle.frp_store.proofs.places.Places.count_below.Goals as goal

pub loop-number-preserved : goal.loop-number-preserved
loop-number-preserved c =
    let xs = c.self.inside.places.items in
    let i = c.loop-number.number - 1 in
    let within : i < length xs = (let a = c.loop-number-test.true in let b = c.loop-number.invariant.inside in omega arith) in
    let got = number_got xs i c.index.result.now (slice_get_read xs (length xs) i c.index.result.now refl within c.index.ensures) in
    record {
      inside = omega arith;
      counted = count_step c.args.place c.loop-number.number c.index.result.now.0 (numbers xs) c.loop-number-test.true got c.if-index-place.true ∙ c.loop-number.invariant.counted;
    }

pub returns-else-index-place : goal.returns-else-index-place
returns-else-index-place c =
    let xs = c.self.inside.places.items in
    let i = c.loop-number.number - 1 in
    let within : i < length xs = (let a = c.loop-number-test.true in let b = c.loop-number.invariant.inside in omega arith) in
    let got = number_got xs i c.index.result.now (slice_get_read xs (length xs) i c.index.result.now refl within c.index.ensures) in
    let all : c.loop-number.number ≤ length (numbers xs) = subst (λ n. c.loop-number.number ≤ n) (sym (length-map xs number_of)) c.loop-number.invariant.inside in
    sym (count_end c.args.place c.loop-number.number c.index.result.now.0 (numbers xs) c.loop-number-test.true all c.self.invariant got c.if-index-place.false)
    ∙ c.loop-number.invariant.counted ∙ ap (λ (v : PlaceList). count_below c.args.place v.items) c.self.view_is
