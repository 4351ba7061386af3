use Rattle.frp_rows.proofs.Computing.{typing, false_true}
use Rattle.frp_rows.proofs.untyped.Goals as goal

pub returns : goal.returns
returns c = λ h. false_true (simp typing at h.funs)
