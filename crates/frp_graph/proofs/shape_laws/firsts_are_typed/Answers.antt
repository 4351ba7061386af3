use Rattle.frp_graph.proofs.TypedFirsts.{first_typed}
use Rattle.frp_graph.proofs.shape_laws.firsts_are_typed.Goals as goal

pub returns : goal.returns
returns c = λ prog w given x well allows fit. first_typed prog w well given x allows fit
