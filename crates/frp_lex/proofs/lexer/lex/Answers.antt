use Rattle.std.proofs.Common.{◌≤◌, length, drop, arith, length-drop}
use Rattle.std.proofs.lemmas.List.{take_rest}
use Rattle.std.proofs.lemmas.Result.{err_from_is_err_and}
use Rattle.frp_lex.specs.Tokens.{tokens}
use Rattle.frp_lex.proofs.Reading.{goes_on, fails, begins}
use Rattle.frp_lex.proofs.lexer.lex.Goals as goal

pub loop-at-init : goal.loop-at-init
loop-at-init c = record { so_far = rw c.new-tokens.ensures (begins c.args.bytes.now); within = omega arith }

pub loop-at-preserved : goal.loop-at-preserved
loop-at-preserved c =
    let at = c.loop-at.at in
    let bytes = c.args.bytes.now in
    let some : 1 ≤ length (drop at bytes) = omega (arith, length-drop at bytes) in
    let piece = rw take_rest at c.in_ok-kind.ensures.value in
    let fits : 1 ≤ c.in_ok-kind.len × c.in_ok-kind.len ≤ length (drop at bytes) = rw take_rest at c.in_ok-kind.ensures.within in
    record {
      so_far = rw c.in_ok-add.ensures (goes_on c.loop-at.tokens at bytes (c.in_ok-kind.kind, c.in_ok-kind.len) (tokens bytes) some fits.0 piece c.loop-at.invariant.so_far);
      within = omega (arith, length-drop at bytes);
    }

pub returns-in_err-kind : goal.returns-in_err-kind
returns-in_err-kind c =
    let at = c.loop-at.at in
    let bytes = c.args.bytes.now in
    let p = err_from_is_err_and c.from_residual.result c.from_residual.ensures.1 in
    let some : 1 ≤ length (drop at bytes) = omega (arith, length-drop at bytes) in
    rw (p.1, p.2) (fails c.in_err-kind.field-0.0 c.loop-at.tokens at (drop at bytes) (tokens bytes) some (rw take_rest at c.in_err-kind.ensures.value) c.loop-at.invariant.so_far)
