use Rattle.std.proofs.Common.{◌≡◌, Some, None, sym, ap, ◌∙◌}
use Rattle.std.specs.Option.{option_copied}
use Rattle.frp_store.specs.State.{Versions, pre_in}
use Rattle.frp_store.specs.Lists.{lists_of}
use Rattle.frp_store.proofs.Keeping.{findable_now}
use Rattle.frp_store.proofs.Showing.{held_in, held_before, none_before}
use Rattle.frp_store.proofs.store.Store.before.Goals as goal

pub find-requires : goal.find-requires
find-requires c = let t = c.self.inside.tables in record { findable = findable_now t.changes.items (lists_of t) t.edges c.self.invariant.1 }

pub returns-in-Some : goal.returns-in-Some
returns-in-Some c =
    let t = c.self.inside.tables in
    let n = c.args.n.now in
    let h : held_in t.held.items n ≡ Some c.in-Some.held.now = sym c.find.ensures ∙ ap option_copied c.in-Some.is in
    c.as_ref.ensures.value ∙ held_before t.changes.items (lists_of t) t.edges n c.in-Some.held.now c.self.invariant.1 h ∙ ap (λ (v : Versions). pre_in v.now n) c.self.view_is

pub returns-in-None : goal.returns-in-None
returns-in-None c =
    let t = c.self.inside.tables in
    let n = c.args.n.now in
    let h : held_in t.held.items n ≡ None = sym c.find.ensures ∙ ap option_copied c.in-None.is in
    sym (none_before t.changes.items (lists_of t) t.edges n c.self.invariant.1 h) ∙ ap (λ (v : Versions). pre_in v.now n) c.self.view_is
