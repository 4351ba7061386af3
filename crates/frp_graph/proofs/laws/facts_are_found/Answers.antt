use Rattle.frp_graph.proofs.Values.{found_is, is_found}
use Rattle.frp_graph.proofs.laws.facts_are_found.Goals as goal

pub returns : goal.returns
returns c = λ m h n v. (is_found m.fired h n v, found_is m.fired n v)
