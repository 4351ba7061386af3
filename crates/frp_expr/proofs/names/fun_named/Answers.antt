use Rattle.frp_expr.specs.Scope.{Fun}
use Rattle.frp_expr.proofs.Places.{found_more, found_all, fun_found}
use Rattle.frp_expr.proofs.names.fun_named.Goals as goal

pub loop-i-preserved : goal.loop-i-preserved
loop-i-preserved c =
    found_more (λ (f : Fun). f.0) c.args.name.now c.args.funs.now c.loop-i.i c.index-funs-i.result c.eq.result c.loop-i.found c.newer-found.result
    c.loop-i-test.true c.eq.ensures c.index-funs-i.is c.loop-i.invariant c.newer-found.ensures

pub returns : goal.returns
returns c =
    fun_found c.args.name.now c.args.funs.now c.loop-i.found
    (found_all (λ (f : Fun). f.0) c.args.name.now c.args.funs.now c.loop-i.i c.loop-i.found c.loop-i-test.false c.loop-i.invariant)
