use Rattle.std.proofs.Common.{sym, ap, ◌∙◌}
use Rattle.frp_store.specs.Edges.{left}
use Rattle.frp_store.proofs.Edging.{left_is}
use Rattle.frp_store.proofs.edges.Edges.leave.Goals as goal

pub returns-in-Some-clause-lists : goal.returns-in-Some-clause-lists
returns-in-Some-clause-lists c =
    let ds = c.args.self.now.lists.items in
    left_is ds c.in-Some.end c.args.place c.get_mut.result.now c.remove.new.self c.get_mut.ensures.item c.remove.ensures.items c.remove.ensures.room
    ∙ ap (λ e. left e c.args.place ds) (sym c.in-Some.is)
