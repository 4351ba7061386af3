use Rattle.std.proofs.Common.{sym}
use Rattle.frp_expr.proofs.Places.{number_bound, number_scope, number_neither}
use Rattle.frp_expr.proofs.names.number.Goals as goal

pub returns-in-Some : goal.returns-in-Some
returns-in-Some c = sym (number_bound c.args.name.now c.args.names.now c.args.bound.now c.in-Some.j (sym c.in-Some.ensures.place))

pub returns-in-Some-place_of : goal.returns-in-Some-place_of
returns-in-Some-place_of c = sym (number_scope c.args.name.now c.args.names.now c.args.bound.now c.in-Some-place_of.i (sym c.in_default.ensures.place) (sym c.in-Some-place_of.ensures.place))

pub returns-in-None : goal.returns-in-None
returns-in-None c = sym (number_neither c.args.name.now c.args.names.now c.args.bound.now (sym c.in_default.ensures.place) (sym c.in-None.ensures.place))
