use Rattle.std.proofs.Common.{◌≡◌, Some, None, sym, ap, ◌∙◌}
use Rattle.std.specs.Prelude.{is_some}
use Rattle.std.specs.Option.{option_copied}
use Rattle.frp_store.specs.State.{Versions}
use Rattle.frp_store.specs.Lists.{lists_of}
use Rattle.frp_store.proofs.Keeping.{findable_now}
use Rattle.frp_store.proofs.Showing.{held_in, seen_after, none_after}
use Rattle.frp_store.proofs.view.StoreView.post.Goals as goal

pub find-requires : goal.find-requires
find-requires c = let t = c.self.inside.tables in record { findable = findable_now t.changes.items (lists_of t) t.edges c.self.invariant.1 }

pub value_after-requires : goal.value_after-requires
value_after-requires c =
    let t = c.self.inside.tables in
    let n = c.args.c.now in
    let h : held_in t.held.items n ≡ Some c.in-Some.held.now = sym c.find.ensures ∙ ap option_copied c.in-Some.is in
    ap is_some (seen_after t.changes.items (lists_of t) t.edges c.args.self.now.now n c.in-Some.held.now (ap (λ (v : Versions). v.now) c.self.view_is) c.self.invariant.1 h) ∙ c.requires

pub unreachable-requires : goal.unreachable-requires
unreachable-requires c =
    let t = c.self.inside.tables in
    let n = c.args.c.now in
    let h : held_in t.held.items n ≡ None = sym c.find.ensures ∙ ap option_copied c.in-None.is in
    let e = none_after t.changes.items (lists_of t) t.edges c.args.self.now.now n (ap (λ (v : Versions). v.now) c.self.view_is) c.self.invariant.1 h in
    let b = sym (ap is_some e) ∙ c.requires in
    absurd cc

pub returns : goal.returns
returns c =
    let t = c.self.inside.tables in
    let n = c.args.c.now in
    let h : held_in t.held.items n ≡ Some c.in-Some.held.now = sym c.find.ensures ∙ ap option_copied c.in-Some.is in
    sym (seen_after t.changes.items (lists_of t) t.edges c.args.self.now.now n c.in-Some.held.now (ap (λ (v : Versions). v.now) c.self.view_is) c.self.invariant.1 h) ∙ c.value_after.ensures
