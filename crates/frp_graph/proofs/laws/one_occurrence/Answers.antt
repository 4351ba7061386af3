use Rattle.std.proofs.Common.{[]}
use Rattle.frp_graph.proofs.Facts as facts
use Rattle.frp_graph.proofs.laws.one_occurrence.Goals as goal

pub returns : goal.returns
returns c = λ prog sends trace h n t v w p q. facts.one_occurrence prog sends n t v w [] trace h.rising h.moments p q
