use Rattle.std.proofs.Common.{sym}
use Rattle.frp_expr.proofs.Places.{in_bound, in_scope, in_neither}
use Rattle.frp_expr.proofs.names.named.Goals as goal

pub returns-in-Some : goal.returns-in-Some
returns-in-Some c = in_bound c.args.name.now c.args.names.now c.args.bound.now c.in-Some.j c.index-bound-j.result (sym c.in-Some.ensures.place) c.in-Some.ensures.within

pub returns-in-Some-place_of : goal.returns-in-Some-place_of
returns-in-Some-place_of c =
    in_scope c.args.name.now c.args.names.now c.args.bound.now c.in-Some-place_of.i c.index-names-i.result (sym c.in_default.ensures.place) (sym c.in-Some-place_of.ensures.place) c.in-Some-place_of.ensures.within

pub returns-in-None : goal.returns-in-None
returns-in-None c = in_neither c.args.name.now c.args.names.now c.args.bound.now (sym c.in_default.ensures.place) (sym c.in-None.ensures.place)
