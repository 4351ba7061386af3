use Rattle.frp_graph.proofs.Readable as reads
use Rattle.frp_graph.proofs.shape_laws.reads_are_there.Goals as goal

pub returns : goal.returns
returns c = reads.reads_are_there
