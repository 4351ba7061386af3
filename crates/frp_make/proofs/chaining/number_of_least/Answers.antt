use Rattle.std.proofs.Common.{◌≡◌, [], get_or, sym, ap, ◌∙◌, arith}
use Rattle.std.specs.Ordering.{is_lt}
use Rattle.std.proofs.lemmas.List.{get_or_read}
use Rattle.frp_base.specs.Name.{name_cmp}
use Rattle.frp_make.proofs.Least.{less_now, less_still}
use Rattle.frp_make.proofs.chaining.number_of_least.Goals.{then-is_lt, else-is_lt}
use Rattle.frp_make.proofs.chaining.number_of_least.Goals as goal

-- what the test says of the names
tested : (c : goal.Joined-is_lt) → is_lt (name_cmp (get_or c.args.names.now c.loop-i.i []) (get_or c.args.names.now c.loop-i.best [])) ≡ c.is_lt.result
tested c =
    let ns = c.args.names.now in
    let a : c.index-names-i.result ≡ get_or ns c.loop-i.i [] = get_or_read ns c.loop-i.i c.index-names-i.result c.loop-i-test.true c.index-names-i.is [] in
    let b : c.index-names-best.result ≡ get_or ns c.loop-i.best [] = get_or_read ns c.loop-i.best c.index-names-best.result c.loop-i.invariant.inside c.index-names-best.is [] in
    sym (c.is_lt.ensures ∙ ap is_lt c.cmp.ensures ∙ ap (λ n. is_lt (name_cmp n c.index-names-best.result)) a ∙ ap (λ n. is_lt (name_cmp (get_or ns c.loop-i.i []) n)) b)

pub loop-i-preserved : goal.loop-i-preserved
loop-i-preserved c = elim c.if-is_lt.branch [
  | then-is_lt w ↦ record {
    inside = let e = w.best-is in let h = c.loop-i-test.true in omega arith;
    least = less_now c.args.names.now c.loop-i.i c.loop-i.best c.if-is_lt.best c.loop-i.invariant.least (tested c ∙ w.if-is_lt.true) w.best-is;
  }
  | else-is_lt w ↦ record {
    inside = let e = w.best-is in let h = c.loop-i.invariant.inside in omega arith;
    least = less_still c.args.names.now c.loop-i.i c.loop-i.best c.if-is_lt.best c.loop-i.invariant.least (tested c ∙ w.if-is_lt.false) w.best-is;
  }
]
