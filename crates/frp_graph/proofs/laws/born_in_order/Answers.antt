use Rattle.frp_graph.proofs.InOrder as order
use Rattle.frp_graph.proofs.laws.born_in_order.Goals as goal

pub returns : goal.returns
returns c = order.born_in_order
