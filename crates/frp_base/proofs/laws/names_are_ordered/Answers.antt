use Rattle.frp_base.proofs.OrderLemmas.{name_cmp-equal, name_cmp-reversed, name_cmp-transitive, name_cmp-total, name_cmp-beginnings}
use Rattle.frp_base.proofs.laws.names_are_ordered.Goals as goal

pub returns-clause-equal : goal.returns-clause-equal
returns-clause-equal c = name_cmp-equal

pub returns-clause-reversed : goal.returns-clause-reversed
returns-clause-reversed c = name_cmp-reversed

pub returns-clause-transitive : goal.returns-clause-transitive
returns-clause-transitive c = name_cmp-transitive

pub returns-clause-total : goal.returns-clause-total
returns-clause-total c = name_cmp-total

pub returns-clause-beginnings : goal.returns-clause-beginnings
returns-clause-beginnings c = name_cmp-beginnings
