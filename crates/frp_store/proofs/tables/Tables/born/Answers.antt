use Rattle.std.proofs.Common.{ap, ◌∙◌}
use Rattle.frp_graph.specs.Links.{are_distinct}
use Rattle.frp_store.specs.State.{names}
use Rattle.frp_store.specs.Lists.{nodes_of}
use Rattle.frp_store.proofs.Ending.{distinct_drop}
use Rattle.frp_store.proofs.tables.Tables.born.Goals as goal

pub sort_nodes-requires : goal.sort_nodes-requires
sort_nodes-requires c =
    let s = c.args.self.now in
    record { once = ap (λ xs. are_distinct (names xs)) c.in_ok-born.ensures ∙ distinct_drop (nodes_of s.held.items) s.first c.requires.distinct }
