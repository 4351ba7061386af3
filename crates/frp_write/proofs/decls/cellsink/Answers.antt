use Rattle.frp_write.proofs.StepLemmas.{on_ok, one_and_two}
use Rattle.frp_write.proofs.decls.cellsink.Goals as goal

pub returns : goal.returns
returns c = on_ok c.write_last.result _ _ (λ e. one_and_two _ _ _ _ _ _ _ _ c.in_ok-write_joint.ensures c.in_ok-write_ty.ensures e) c.write_last.ensures
