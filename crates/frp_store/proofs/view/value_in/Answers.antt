use Rattle.std.proofs.Common.{◌≡◌, ◌<◌, ◌+◌, ◌-◌, ◌/◌, Some, length, refl, sym, ◌∙◌, arith}
use Rattle.std.specs.Prelude.{slice_get}
use Rattle.std.proofs.lemmas.Option.{slice_get_read}
use Rattle.frp_store.proofs.Timing.{middle, fact_numbered, fact_after, fact_before, no_fact_of}
use Rattle.frp_store.proofs.view.value_in.Goals as goal

pub loop-low-preserved-in-Less : goal.loop-low-preserved-in-Less
loop-low-preserved-in-Less c =
    let fs = c.args.facts.now in
    let low = c.loop-low.low in
    let high = c.loop-low.high in
    let i = low + (high - low) / 2 in
    let f = c.index-facts-middle.result in
    let b = middle low high (length fs) c.loop-low-test.true c.loop-low.invariant.inside in
    let there : slice_get fs i ≡ Some f = slice_get_read fs (length fs) i f refl b.1.1 c.index-facts-middle.is in
    record {
      inside = c.loop-low.invariant.inside;
      order = (let u = b.1.0 in omega arith);
      between = λ k g e t.
          let after : i < k = fact_after fs i k f g c.args.name.now c.requires.rising there (sym c.cmp.ensures ∙ c.in-Less.is) e t in
          ((let a = after in omega arith), (c.loop-low.invariant.between k g e t).1);
    }

pub returns-in-Equal : goal.returns-in-Equal
returns-in-Equal c =
    let fs = c.args.facts.now in
    let low = c.loop-low.low in
    let high = c.loop-low.high in
    let i = low + (high - low) / 2 in
    let f = c.index-facts-middle.result in
    let b = middle low high (length fs) c.loop-low-test.true c.loop-low.invariant.inside in
    let there : slice_get fs i ≡ Some f = slice_get_read fs (length fs) i f refl b.1.1 c.index-facts-middle.is in
    sym (fact_numbered fs i f c.args.name.now c.requires.rising there (sym c.cmp.ensures ∙ c.in-Equal.is))

pub loop-low-preserved : goal.loop-low-preserved
loop-low-preserved c =
    let fs = c.args.facts.now in
    let low = c.loop-low.low in
    let high = c.loop-low.high in
    let i = low + (high - low) / 2 in
    let f = c.index-facts-middle.result in
    let b = middle low high (length fs) c.loop-low-test.true c.loop-low.invariant.inside in
    let there : slice_get fs i ≡ Some f = slice_get_read fs (length fs) i f refl b.1.1 c.index-facts-middle.is in
    record {
      inside = (let u = b.1.1 in omega arith);
      order = b.0;
      between = λ k g e t. (
        (c.loop-low.invariant.between k g e t).0,
        fact_before fs i k f g c.args.name.now c.requires.rising there (sym c.cmp.ensures ∙ c.in-Greater.is) e t,
      );
    }

pub returns : goal.returns
returns c =
    sym (no_fact_of c.args.facts.now c.args.name.now
    (λ k g e t. let b = c.loop-low.invariant.between k g e t in let l = b.0 in let h = b.1 in let f = c.loop-low-test.false in omega arith))
