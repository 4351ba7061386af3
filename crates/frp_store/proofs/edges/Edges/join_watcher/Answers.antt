use Rattle.std.proofs.Common.{sym, ap, ◌∙◌}
use Rattle.frp_store.specs.Edges.{joined_watcher}
use Rattle.frp_store.proofs.Edging.{joined_watcher_is}
use Rattle.frp_store.proofs.edges.Edges.join_watcher.Goals as goal

pub returns-in-Some-clause-lists : goal.returns-in-Some-clause-lists
returns-in-Some-clause-lists c =
    let ds = c.args.self.now.lists.items in
    joined_watcher_is ds c.in-Some.end c.args.place c.get_mut.result.now c.insert.new.self c.get_mut.ensures.item c.insert.ensures.items c.insert.ensures.room
    ∙ ap (λ e. joined_watcher e c.args.place ds) (sym c.in-Some.is)
