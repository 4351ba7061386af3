use Rattle.frp_base.proofs.TyLemmas.{ty_decides}
use Rattle.frp_base.proofs.ty.Ty.is.Goals as goal

pub returns-clause-same : goal.returns-clause-same
returns-clause-same c = rw c.same.ensures (ty_decides c.args.self.now c.args.other.now)
