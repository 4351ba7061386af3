use Rattle.std.proofs.Common.{◌≡◌, Some, None, sym, ap, ◌∙◌}
use Rattle.std.specs.Prelude.{is_some}
use Rattle.std.specs.Option.{option_copied}
use Rattle.frp_store.specs.State.{Versions, pre_in}
use Rattle.frp_store.specs.Lists.{lists_of}
use Rattle.frp_store.proofs.Keeping.{findable_now}
use Rattle.frp_store.proofs.Showing.{held_in, held_before, none_before}
use Rattle.frp_store.proofs.view.StoreView.pre.Goals as goal

pub find-requires : goal.find-requires
find-requires c = let t = c.self.inside.tables in record { findable = findable_now t.changes.items (lists_of t) t.edges c.self.invariant.1 }

pub value_before-requires : goal.value_before-requires
value_before-requires c =
    let t = c.self.inside.tables in
    let n = c.args.c.now in
    let h : held_in t.held.items n ≡ Some c.in-Some.held.now = sym c.find.ensures ∙ ap option_copied c.in-Some.is in
    ap is_some (held_before t.changes.items (lists_of t) t.edges n c.in-Some.held.now c.self.invariant.1 h ∙ ap (λ (v : Versions). pre_in v.now n) c.self.view_is) ∙ c.requires

pub unreachable-requires : goal.unreachable-requires
unreachable-requires c =
    let t = c.self.inside.tables in
    let n = c.args.c.now in
    let h : held_in t.held.items n ≡ None = sym c.find.ensures ∙ ap option_copied c.in-None.is in
    let e = sym (ap (λ (v : Versions). pre_in v.now n) c.self.view_is) ∙ none_before t.changes.items (lists_of t) t.edges n c.self.invariant.1 h in
    let b = sym (ap is_some e) ∙ c.requires in
    absurd cc

pub returns : goal.returns
returns c =
    let t = c.self.inside.tables in
    let n = c.args.c.now in
    let h : held_in t.held.items n ≡ Some c.in-Some.held.now = sym c.find.ensures ∙ ap option_copied c.in-Some.is in
    sym (held_before t.changes.items (lists_of t) t.edges n c.in-Some.held.now c.self.invariant.1 h ∙ ap (λ (v : Versions). pre_in v.now n) c.self.view_is) ∙ c.value_before.ensures
