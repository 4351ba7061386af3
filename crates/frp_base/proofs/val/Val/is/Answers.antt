use Rattle.frp_base.proofs.ValEqLemmas.{val_decides}
use Rattle.frp_base.proofs.val.Val.is.Goals as goal

pub returns-clause-same : goal.returns-clause-same
returns-clause-same c = rw c.same.ensures (val_decides c.args.self.now c.args.other.now)
