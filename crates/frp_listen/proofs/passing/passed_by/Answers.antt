use Rattle.std.proofs.Common.{◌≡◌, ◌+◌, ◌<◌, length, drop, Some, true, false, refl, sym, ap, ◌∙◌, arith}
use Rattle.std.specs.Prelude.{slice_get, is_some}
use Rattle.std.proofs.lemmas.Option.{slice_get_read}
use Rattle.frp_graph.specs.Trace.{occ}
use Rattle.frp_listen.specs.Listeners.{happened}
use Rattle.frp_listen.proofs.Remaining.{is_some_copied, LeavesAs, pass_quiet, pass_fired}
use Rattle.frp_listen.proofs.passing.passed_by.Goals as goal
use Rattle.frp_listen.proofs.passing.passed_by.Goals.{then-is_some+else-more-eq0, else-is_some}

pub loop-passed-preserved : goal.loop-passed-preserved
loop-passed-preserved c =
    let trace = c.args.trace.now in
    let n = c.args.node.now in
    let i = c.loop-passed.passed in
    let m = c.index-trace-passed.result in
    let rest = drop c.args.count (happened n (drop c.args.from trace)) in
    let inside : i < length trace = c.loop-passed-test.true in
    let there : slice_get trace i ≡ Some m = slice_get_read trace (length trace) i m refl inside c.index-trace-passed.is in
    let old : LeavesAs (happened n (drop i trace)) c.loop-passed.more rest = (c.loop-passed.invariant.left, c.loop-passed.invariant.few) in
    let found : is_some c.occurrence.result ≡ is_some (occ m n) = sym (is_some_copied c.occurrence.result) ∙ ap is_some c.occurrence.ensures in
    elim c.if-is_some.branch [
      | then-is_some+else-more-eq0 w ↦
          let some : is_some (occ m n) ≡ true = sym found ∙ sym c.is_some.ensures ∙ w.if-is_some.true in
          let r = pass_fired n trace i m there c.loop-passed.more rest some (let f = w.if-more-eq0.false in omega arith) old in
          record { reached = (omega arith); left = ap (λ k. drop k (happened n (drop (i + 1) trace))) w.more-is ∙ r.0; few = (let e = w.more-is in let l = r.1 in omega arith) }
      | else-is_some w ↦
          let none : is_some (occ m n) ≡ false = sym found ∙ sym c.is_some.ensures ∙ w.if-is_some.false in
          let r = pass_quiet n trace i m there c.loop-passed.more rest none old in
          record { reached = (omega arith); left = ap (λ k. drop k (happened n (drop (i + 1) trace))) w.more-is ∙ r.0; few = (let e = w.more-is in let l = r.1 in omega arith) }
    ]
