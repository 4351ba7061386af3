use Rattle.frp_base.proofs.OrderLemmas.{time_cmp-equal, time_cmp-reversed, time_cmp-transitive, time_cmp-total, time_cmp-beginnings}
use Rattle.frp_base.proofs.laws.times_are_ordered.Goals as goal

pub returns-clause-equal : goal.returns-clause-equal
returns-clause-equal c = time_cmp-equal

pub returns-clause-reversed : goal.returns-clause-reversed
returns-clause-reversed c = time_cmp-reversed

pub returns-clause-transitive : goal.returns-clause-transitive
returns-clause-transitive c = time_cmp-transitive

pub returns-clause-total : goal.returns-clause-total
returns-clause-total c = time_cmp-total

pub returns-clause-beginnings : goal.returns-clause-beginnings
returns-clause-beginnings c = time_cmp-beginnings
