use Rattle.frp_graph.proofs.Instances as instances
use Rattle.frp_graph.proofs.shape_laws.instances_stay.Goals as goal

pub returns : goal.returns
returns c = instances.instances_stay
