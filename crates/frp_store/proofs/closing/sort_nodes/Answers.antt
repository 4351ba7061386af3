use Rattle.std.proofs.Common.{rules}
use Rattle.frp_graph.specs.declared.trace.Node.{Node}
use Rattle.frp_store.proofs.Sorting.{sorted_by_name, sorted_rising, nodes_kept}
use Rattle.frp_store.proofs.closing.sort_nodes.Goals as goal

pub returns-clause-rising : goal.returns-clause-rising
returns-clause-rising c =
    sorted_rising (λ (x : Node). x.name) _ _ c.requires.once c.sort_unstable_by.ensures.permutation
    (sorted_by_name (λ (x : Node). x.name) _ c.sort_unstable_by.ensures.sorted (λ a r q k. search rules))

pub returns-clause-nodes : goal.returns-clause-nodes
returns-clause-nodes c = nodes_kept _ _ c.sort_unstable_by.ensures.permutation (returns-clause-rising c)
