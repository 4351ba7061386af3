use Rattle.frp_rows.proofs.Computing.{computing, false_true}
use Rattle.frp_rows.proofs.Evidences.{rules_of}
use Rattle.frp_rows.proofs.refuses_hasty_chain.Goals as goal

pub returns : goal.returns
returns c = λ h. false_true (simp computing at (rules_of 2 h).cause.closed)
