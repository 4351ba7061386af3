use Rattle.frp_graph.proofs.Executes as executes
use Rattle.frp_graph.proofs.shape_laws.instances_are_there.Goals as goal

pub returns : goal.returns
returns c = executes.instances_are_there
