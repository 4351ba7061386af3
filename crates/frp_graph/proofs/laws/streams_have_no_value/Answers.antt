use Rattle.frp_graph.proofs.Values as values
use Rattle.frp_graph.proofs.laws.streams_have_no_value.Goals as goal

pub returns : goal.returns
returns c = values.streams_have_no_value
