use Rattle.frp_graph.specs.Moments.{is_of_transaction}
use Rattle.frp_graph.proofs.Transactions.{some_rise, transaction_is}
use Rattle.frp_graph.proofs.laws.transactions_are_due.Goals as goal

pub returns : goal.returns
returns c = λ prog sends trace h k. (some_rise (λ m. is_of_transaction k m.time) trace h.rising, transaction_is sends trace h.due k)
