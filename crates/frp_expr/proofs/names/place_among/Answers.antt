use Rattle.frp_expr.proofs.Places.{text_more, text_all, text_within}
use Rattle.frp_expr.proofs.names.place_among.Goals as goal

pub loop-i-preserved : goal.loop-i-preserved
loop-i-preserved c =
    text_more c.args.name.now c.args.names.now c.loop-i.i c.index-names-i.result c.eq.result c.loop-i.found c.newer-found.result
    c.loop-i-test.true c.eq.ensures c.index-names-i.is c.loop-i.invariant c.newer-found.ensures

pub returns-clause-within : goal.returns-clause-within
returns-clause-within c =
    text_within c.args.name.now c.args.names.now c.loop-i.found
    (text_all c.args.name.now c.args.names.now c.loop-i.i c.loop-i.found c.loop-i-test.false c.loop-i.invariant)
