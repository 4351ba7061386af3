use Rattle.std.proofs.Common.{◌≡◌, ◌-◌, sym, arith}
use Rattle.std.proofs.lemmas.Result.{err_from_is_err_and}
use Rattle.frp_form.specs.Lists.{items, over_at}
use Rattle.frp_form.proofs.ListLemmas.{behind_none, goes_on, fails, stops, is_full}
use Rattle.frp_form.proofs.lists.items.Goals as goal

pub loop-init : goal.loop-init
loop-init g c =
    let k : c.args.limit - 0 ≡ c.args.limit = omega arith in
    rw (c.new-all.ensures, k) (behind_none (items g.T.Rule.ending (over_at c.args.end c.args.past) (g.T.Rule.reading c.args.end) c.args.limit c.args.tokens.now))

pub returns-in-Some : goal.returns-in-Some
returns-in-Some g c =
    let total = items g.T.Rule.ending (over_at c.args.end c.args.past) (g.T.Rule.reading c.args.end) c.args.limit c.args.tokens.now in
    stops g.T.Rule.ending (over_at c.args.end c.args.past) (g.T.Rule.reading c.args.end) (c.args.limit - c.loop.counter) c.loop.all c.loop.rest.now c.in-Some.after.now total (sym c.in-Some.ensures) c.loop.invariant

pub returns-in-Some-end : goal.returns-in-Some-end
returns-in-Some-end g c =
    let total = items g.T.Rule.ending (over_at c.args.end c.args.past) (g.T.Rule.reading c.args.end) c.args.limit c.args.tokens.now in
    stops g.T.Rule.ending (over_at c.args.end c.args.past) (g.T.Rule.reading c.args.end) (c.args.limit - c.loop.counter) c.loop.all c.loop.rest.now c.in-Some-end.after.now total (sym c.in-Some-end.ensures) c.loop.invariant

pub returns : goal.returns
returns g c =
    let total = items g.T.Rule.ending (over_at c.args.end c.args.past) (g.T.Rule.reading c.args.end) c.args.limit c.args.tokens.now in
    rw c.over_at.ensures (is_full g.T.Rule.ending (over_at c.args.end c.args.past) (g.T.Rule.reading c.args.end) (c.args.limit - c.loop.counter) c.loop.all c.loop.rest.now total (omega arith) (sym c.in-None.ensures) c.loop.invariant)

pub returns-in_err-item : goal.returns-in_err-item
returns-in_err-item g c =
    let total = items g.T.Rule.ending (over_at c.args.end c.args.past) (g.T.Rule.reading c.args.end) c.args.limit c.args.tokens.now in
    let p = err_from_is_err_and c.from_residual.result c.from_residual.ensures.1 in
    rw (p.1, p.2) (fails g.T.Rule.ending (over_at c.args.end c.args.past) (g.T.Rule.reading c.args.end) c.in_err-item.field-0.0 c.args.limit c.loop.counter c.loop.all c.loop.rest.now total c.loop-test.true (sym c.in_default.ensures) c.in_err-item.ensures c.loop.invariant)

pub loop-preserved : goal.loop-preserved
loop-preserved g c =
    let total = items g.T.Rule.ending (over_at c.args.end c.args.past) (g.T.Rule.reading c.args.end) c.args.limit c.args.tokens.now in
    rw c.in_ok-add.ensures.ok (goes_on g.T.Rule.ending (over_at c.args.end c.args.past) (g.T.Rule.reading c.args.end) c.args.limit c.loop.counter c.loop.all c.loop.rest.now c.in_ok-item.item c.in_ok-item.after.now total c.loop-test.true (sym c.in_default.ensures) c.in_ok-item.ensures c.loop.invariant)
