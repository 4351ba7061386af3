use Rattle.std.proofs.Common.{◌≡◌, ◌<◌, ◌+◌, ◌-◌, ◌/◌, Some, length, refl, sym, ◌∙◌, arith}
use Rattle.std.specs.Prelude.{slice_get}
use Rattle.std.proofs.lemmas.Option.{slice_get_read}
use Rattle.frp_store.proofs.Timing.{middle, moment_numbered, only_after, only_before, none_at, at_equal}
use Rattle.frp_store.proofs.tables.Tables.moment_at.Goals as goal

pub loop-low-preserved-in-Less : goal.loop-low-preserved-in-Less
loop-low-preserved-in-Less c =
    let ms = c.args.self.now.past.items in
    let low = c.loop-low.low in
    let high = c.loop-low.high in
    let i = low + (high - low) / 2 in
    let m = c.index.result.now in
    let b = middle low high (length ms) c.loop-low-test.true c.loop-low.invariant.inside in
    let there : slice_get ms i ≡ Some m = slice_get_read ms (length ms) i m refl b.1.1 c.index.ensures in
    record {
      inside = c.loop-low.invariant.inside;
      order = (let u = b.1.0 in omega arith);
      between = λ k p e t.
          let after : i < k = only_after ms i k m p c.args.time.now c.requires.rising there (sym c.cmp.ensures ∙ c.in-Less.is) e t in
          ((let a = after in omega arith), (c.loop-low.invariant.between k p e t).1);
    }

pub returns-in-Equal : goal.returns-in-Equal
returns-in-Equal c =
    let ms = c.args.self.now.past.items in
    let low = c.loop-low.low in
    let high = c.loop-low.high in
    let i = low + (high - low) / 2 in
    let m = c.index.result.now in
    let b = middle low high (length ms) c.loop-low-test.true c.loop-low.invariant.inside in
    let there : slice_get ms i ≡ Some m = slice_get_read ms (length ms) i m refl b.1.1 c.index.ensures in
    (m, there, moment_numbered ms i m c.args.time.now c.requires.rising there (at_equal m.time c.args.time.now (sym c.cmp.ensures ∙ c.in-Equal.is)))

pub loop-low-preserved : goal.loop-low-preserved
loop-low-preserved c =
    let ms = c.args.self.now.past.items in
    let low = c.loop-low.low in
    let high = c.loop-low.high in
    let i = low + (high - low) / 2 in
    let m = c.index.result.now in
    let b = middle low high (length ms) c.loop-low-test.true c.loop-low.invariant.inside in
    let there : slice_get ms i ≡ Some m = slice_get_read ms (length ms) i m refl b.1.1 c.index.ensures in
    record {
      inside = (let u = b.1.1 in omega arith);
      order = b.0;
      between = λ k p e t. (
        (c.loop-low.invariant.between k p e t).0,
        only_before ms i k m p c.args.time.now c.requires.rising there (sym c.cmp.ensures ∙ c.in-Greater.is) e t,
      );
    }

pub returns : goal.returns
returns c =
    none_at c.args.self.now.past.items c.args.time.now
    (λ k p e t. let b = c.loop-low.invariant.between k p e t in let l = b.0 in let h = b.1 in let f = c.loop-low-test.false in omega arith)
