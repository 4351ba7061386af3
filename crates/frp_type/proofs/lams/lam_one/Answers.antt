use Rattle.std.proofs.Common.{[], ◌∷◌}
use Rattle.frp_type.proofs.LamTypings.{lam_made, code_made}
use Rattle.frp_type.proofs.lams.lam_one.Goals as goal

pub returns-clause-stands : goal.returns-clause-stands
returns-clause-stands c = lam_made c.args.scope.now c.args.codes.now ((c.args.x.now, c.args.a) ∷ []) c.args.e.now c.in_ok-typing.typing c.in_ok-typing.ensures.typing c.as_slice.result.now c.get.result.now c.as_slice.ensures c.get.ensures c.in_ok-f.f c.in_ok-f.ensures.stands

pub returns-clause-codes : goal.returns-clause-codes
returns-clause-codes c = code_made c.args.scope.now c.args.codes.now ((c.args.x.now, c.args.a) ∷ []) c.args.e.now c.in_ok-typing.typing c.in_ok-typing.ensures.typing c.as_slice.result.now c.get.result.now c.as_slice.ensures c.get.ensures c.close_over.new.codes c.in_ok-f.ensures.codes
