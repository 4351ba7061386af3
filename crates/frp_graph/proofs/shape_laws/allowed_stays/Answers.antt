use Rattle.frp_graph.proofs.Allowed as allowed
use Rattle.frp_graph.proofs.shape_laws.allowed_stays.Goals as goal

pub returns : goal.returns
returns c = λ prog w u x shape more. allowed.allowed_stays prog w u more x shape
