use Rattle.frp_graph.proofs.Transactions as transactions
use Rattle.frp_graph.proofs.laws.none_unsent.Goals as goal

pub returns : goal.returns
returns c = λ prog sends trace h k. transactions.none_unsent sends trace h.due k
