use Rattle.frp_audit.proofs.OneVerdict as one
use Rattle.frp_audit.proofs.laws.one_verdict.Goals as goal

pub returns : goal.returns
returns c = record { no_trace = one.evidence_excludes; endless_too = one.endless_by_all }
