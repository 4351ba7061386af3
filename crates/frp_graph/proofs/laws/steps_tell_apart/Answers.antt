use Rattle.frp_graph.proofs.Values.{tell_apart}
use Rattle.frp_graph.proofs.laws.steps_tell_apart.Goals as goal

pub returns : goal.returns
returns c = tell_apart
