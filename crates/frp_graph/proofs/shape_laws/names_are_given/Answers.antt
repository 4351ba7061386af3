use Rattle.frp_graph.proofs.NamesIn as names
use Rattle.frp_graph.proofs.shape_laws.names_are_given.Goals as goal

pub returns : goal.returns
returns c = names.names_are_given
