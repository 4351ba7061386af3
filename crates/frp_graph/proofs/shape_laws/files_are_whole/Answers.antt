use Rattle.frp_graph.proofs.Instances as instances
use Rattle.frp_graph.proofs.shape_laws.files_are_whole.Goals as goal

pub returns : goal.returns
returns c = instances.files_are_whole
