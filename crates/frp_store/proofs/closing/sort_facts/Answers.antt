use Rattle.std.proofs.Common.{rules}
use Rattle.frp_graph.specs.declared.trace.Fact.{Fact}
use Rattle.frp_store.proofs.Sorting.{sorted_by_name, sorted_rising, facts_kept}
use Rattle.frp_store.proofs.closing.sort_facts.Goals as goal

pub returns-clause-rising : goal.returns-clause-rising
returns-clause-rising c =
    sorted_rising (λ (f : Fact). f.node) _ _ c.requires.once c.sort_unstable_by.ensures.permutation
    (sorted_by_name (λ (f : Fact). f.node) _ c.sort_unstable_by.ensures.sorted (λ a r q k. search rules))

pub returns-clause-facts : goal.returns-clause-facts
returns-clause-facts c = facts_kept _ _ c.sort_unstable_by.ensures.permutation (returns-clause-rising c)
