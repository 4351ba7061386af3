use Rattle.frp_expr.specs.Scope.{Named}
use Rattle.frp_expr.proofs.Places.{found_more, found_all, found_within}
use Rattle.frp_expr.proofs.names.place_of.Goals as goal

pub loop-i-preserved : goal.loop-i-preserved
loop-i-preserved c =
    found_more (λ (n : Named). n.0) c.args.name.now c.args.names.now c.loop-i.i c.index-names-i.result c.eq.result c.loop-i.found c.newer-found.result
    c.loop-i-test.true c.eq.ensures c.index-names-i.is c.loop-i.invariant c.newer-found.ensures

pub returns-clause-within : goal.returns-clause-within
returns-clause-within c =
    found_within (λ (n : Named). n.0) c.args.name.now c.args.names.now c.loop-i.found
    (found_all (λ (n : Named). n.0) c.args.name.now c.args.names.now c.loop-i.i c.loop-i.found c.loop-i-test.false c.loop-i.invariant)
