use Rattle.std.proofs.Common.{◌-◌, take, ap, ◌∙◌}
use Rattle.frp_store.specs.Lists.{lists_of}
use Rattle.frp_store.proofs.Keeping.{taken_again, lists_same}
use Rattle.frp_store.proofs.tables.Tables.take_back.Goals as goal

pub returns-clause-kept : goal.returns-clause-kept
returns-clause-kept c =
    let s = c.args.self.now in
    taken_again s.changes.items (lists_of s) s.edges c.args.place _ _ c.requires.kept c.put_occ.ensures.held (c.pop.ensures.rest ∙ ap (λ n. take (n - 1) s.fired.items) s.fired.ok.0)

pub returns-clause-lists : goal.returns-clause-lists
returns-clause-lists c =
    let s = c.args.self.now in
    lists_same (lists_of s) _ _ _ _ c.put_occ.ensures.held (c.pop.ensures.rest ∙ ap (λ n. take (n - 1) s.fired.items) s.fired.ok.0)
