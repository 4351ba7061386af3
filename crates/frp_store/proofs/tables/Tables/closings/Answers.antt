use Rattle.std.proofs.Common.{◌≡◌, ◌+◌, length, arith, suc, refl}
use Rattle.std.proofs.lemmas.Option.{slice_get_read}
use Rattle.frp_store.proofs.Taking.{prepared_step, take_at}
use Rattle.frp_store.proofs.tables.Tables.closings.Goals as goal

pub loop-number-preserved : goal.loop-number-preserved
loop-number-preserved c =
    let s = c.args.self.now in
    let i = c.loop-number.number in
    let ps = s.fired.items in
    let p = c.index.result.now in
    let more : i + 1 ≡ suc i = omega arith in
    record {
      inside = (let t = c.loop-number-test.true in let n = c.len.ensures in let o = s.fired.ok.0 in omega arith);
      prepared = prepared_step s.held.items ps (i + 1) i p c.loop-number.closings.items c.push.new.self.items c.in_ok-closing.field-0
          (take_at ps i (i + 1) p more (slice_get_read ps (length ps) i p refl (let t = c.loop-number-test.true in let n = c.len.ensures in let o = s.fired.ok.0 in omega arith) c.index.ensures))
          c.in_ok-push.ensures.items c.loop-number.invariant.prepared c.in_ok-closing.ensures;
    }
