use Rattle.std.proofs.Common.{◌≡◌, ◌<◌, ◌≤◌, ℕ, length, get_or, ap, subst, inl, inr, arith}
use Rattle.std.proofs.lemmas.Bool.{cases_lt}
use Rattle.frp_base.specs.declared.place.Place.{Place}
use Rattle.frp_rank.specs.Chain.{numbers}
use Rattle.frp_rank.proofs.Paths.{numbers_at}
use Rattle.frp_rank.proofs.chain.number_of_least.Goals as goal
use Rattle.frp_rank.proofs.chain.number_of_least.Goals.{then-place-places, else-place-places}

pub loop-i-preserved : goal.loop-i-preserved
loop-i-preserved c =
    let places = c.args.places.now in
    let here : get_or (numbers places) c.loop-i.i 0 ≡ (get_or places c.loop-i.i (record { 0 = 0 })).0 = numbers_at places c.loop-i.i (record { 0 = 0 }) c.loop-i-test.true in
    let best : get_or (numbers places) c.loop-i.best 0 ≡ (get_or places c.loop-i.best (record { 0 = 0 })).0 = numbers_at places c.loop-i.best (record { 0 = 0 }) c.loop-i.invariant.inside in
    elim c.if-place-places.branch [
      | then-place-places w ↦ rw w.best-is (record {
        inside = c.loop-i-test.true;
        least = λ k h. elim (cases_lt k c.loop-i.i) [
          | inl l ↦ let low = c.loop-i.invariant.least k l in let less = w.if-place-places.true in omega arith
          | inr l ↦ let e : k ≡ c.loop-i.i = omega arith in subst (λ i. get_or (numbers places) i 0 ≤ get_or (numbers places) k 0) e (omega arith)
        ];
      })
      | else-place-places w ↦ rw w.best-is (record {
        inside = c.loop-i.invariant.inside;
        least = λ k h. elim (cases_lt k c.loop-i.i) [
          | inl l ↦ c.loop-i.invariant.least k l
          | inr l ↦ let e : c.loop-i.i ≡ k = omega arith in let low = w.if-place-places.false in subst (λ i. get_or (numbers places) c.loop-i.best 0 ≤ get_or (numbers places) i 0) e (omega arith)
        ];
      })
    ]
