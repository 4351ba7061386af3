use Rattle.std.proofs.Common.{◌-◌, List, ◌∷◌, Ok, refl, sym, arith}
use Rattle.std.proofs.lemmas.Result.{err_from_is_err_and}
use Rattle.frp_lex.specs.declared.token.Token.{Token}
use Rattle.frp_expr.specs.declared.raw.Raw.{Raw}
use Rattle.frp_expr.specs.declared.raw.RawForm.TheVariants as f
use Rattle.frp_form.specs.Gives.{FormOutcome, Parser}
use Rattle.frp_form.specs.Tokens.{after_right}
use Rattle.frp_form.specs.Lists.{behind}
use Rattle.frp_form.specs.Heads.{raw_at}
use Rattle.frp_form.specs.Exprs.{too_many, expr_list, list_at, close_at, expr_at}
use Rattle.frp_form.proofs.ListLemmas.{then_stops, behind_none, one_first, first_stops, goes_on, fails, stops, is_full}
use Rattle.frp_form.proofs.exprs.+expr.Goals as goal

pub expr_list-returns-in-Some : goal.expr_list-returns-in-Some
unfolding expr_list
expr_list-returns-in-Some t c =
    let part : Parser Raw = expr_at c.args.end c.args.room in
    stops after_right (too_many c.args.end) part (c.args.limit - c.loop.counter) c.loop.all c.loop.rest.now c.in-Some.after.now (behind c.args.found (expr_list c.args.end part c.args.limit c.args.tokens.now)) (sym c.in-Some.ensures) c.loop.invariant

pub expr_list-returns-in-Some-after_right : goal.expr_list-returns-in-Some-after_right
unfolding expr_list
expr_list-returns-in-Some-after_right t c =
    let part : Parser Raw = expr_at c.args.end c.args.room in
    stops after_right (too_many c.args.end) part (c.args.limit - c.loop.counter) c.loop.all c.loop.rest.now c.in-Some-after_right.after.now (behind c.args.found (expr_list c.args.end part c.args.limit c.args.tokens.now)) (sym c.in-Some-after_right.ensures) c.loop.invariant

pub expr_list-returns : goal.expr_list-returns
unfolding expr_list
expr_list-returns t c =
    let part : Parser Raw = expr_at c.args.end c.args.room in
    rw c.too_many.ensures (is_full after_right (too_many c.args.end) part (c.args.limit - c.loop.counter) c.loop.all c.loop.rest.now (behind c.args.found (expr_list c.args.end part c.args.limit c.args.tokens.now)) (omega arith) (sym c.in-None.ensures) c.loop.invariant)

pub expr_list-returns-in_err-item : goal.expr_list-returns-in_err-item
unfolding expr_list
expr_list-returns-in_err-item t c =
    let part : Parser Raw = expr_at c.args.end c.args.room in
    let p = err_from_is_err_and c.from_residual.result c.from_residual.ensures.1 in
    rw (p.1, p.2) (fails after_right (too_many c.args.end) part c.in_err-item.field-0.0 c.args.limit c.loop.counter c.loop.all c.loop.rest.now (behind c.args.found (expr_list c.args.end part c.args.limit c.args.tokens.now)) c.loop-test.true (sym c.in_default.ensures) c.in_err-item.ensures c.loop.invariant)

pub expr_list-loop-preserved : goal.expr_list-loop-preserved
unfolding expr_list
expr_list-loop-preserved t c =
    let part : Parser Raw = expr_at c.args.end c.args.room in
    rw (c.in_ok-add.ensures.ok, c.into_inner.ensures) (goes_on after_right (too_many c.args.end) part c.args.limit c.loop.counter c.loop.all c.loop.rest.now c.in_ok-item.item c.in_ok-item.after.now (behind c.args.found (expr_list c.args.end part c.args.limit c.args.tokens.now)) c.loop-test.true (sym c.in_default.ensures) c.in_ok-item.ensures c.loop.invariant)

pub close_of-returns : goal.close_of-returns
unfolding close_at
close_of-returns t c = rw (c.in_ok-name.ensures, c.in_ok-raw_at.ensures) (rw (rw (c.new.ensures, behind_none) at c.in_ok-kept.ensures) refl)

pub close_of-returns-in_err-kept : goal.close_of-returns-in_err-kept
unfolding close_at
close_of-returns-in_err-kept t c =
    let p = err_from_is_err_and c.from_residual-in_err-kept.result c.from_residual-in_err-kept.ensures.1 in
    rw (p.1, p.2) (rw c.in_ok-name.ensures (then_stops c.in_err-kept.field-0.0 _ _ (rw (c.new.ensures, behind_none) at c.in_err-kept.ensures)))

pub list_of-returns : goal.list_of-returns
unfolding list_at
list_of-returns t c =
    let part : Parser Raw = expr_at c.args.end c.args.room in
    let made : List Raw × List Token → FormOutcome (Raw × List Token) = λ xs. Ok (raw_at c.args.at (f.List xs.0), xs.1) in
    rw (c.in_ok-first.ensures, c.in_ok-raw_at.ensures) (one_first c.in_ok-first.first (expr_list c.args.end part 1023 c.in_ok-first.rest.now) made (c.in_ok-all.all, c.in_ok-all.rest.now) (rw c.in_ok-found.ensures at c.in_ok-all.ensures))

pub list_of-returns-in_err-all : goal.list_of-returns-in_err-all
unfolding list_at
list_of-returns-in_err-all t c =
    let part : Parser Raw = expr_at c.args.end c.args.room in
    let made : List Raw × List Token → FormOutcome (Raw × List Token) = λ xs. Ok (raw_at c.args.at (f.List (c.in_ok-first.first ∷ xs.0)), xs.1) in
    let p = err_from_is_err_and c.from_residual-in_err-all.result c.from_residual-in_err-all.ensures.1 in
    rw (p.1, p.2) (rw c.in_ok-first.ensures (first_stops c.in_err-all.field-0.0 c.in_ok-first.first (expr_list c.args.end part 1023 c.in_ok-first.rest.now) made (rw c.in_ok-found.ensures at c.in_err-all.ensures)))
