use Rattle.frp_graph.proofs.Turns as turns
use Rattle.frp_graph.proofs.laws.rings_turn.Goals as goal

pub returns : goal.returns
returns c = turns.rings_turn
