use Rattle.frp_graph.proofs.OneBirth as births
use Rattle.frp_graph.proofs.laws.births_are_one.Goals as goal

pub returns : goal.returns
returns c = births.births_are_one
