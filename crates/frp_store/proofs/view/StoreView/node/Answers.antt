use Rattle.std.proofs.Common.{◌≡◌, Some, None, sym, ap, ◌∙◌}
use Rattle.std.specs.Prelude.{option_map}
use Rattle.std.specs.Option.{option_copied}
use Rattle.frp_graph.specs.Trace.{node_in}
use Rattle.frp_store.specs.declared.held.Held.{Held}
use Rattle.frp_store.specs.State.{Versions}
use Rattle.frp_store.specs.Lists.{lists_of}
use Rattle.frp_store.proofs.Keeping.{findable_now}
use Rattle.frp_store.proofs.Showing.{held_in, node_held}
use Rattle.frp_store.proofs.view.StoreView.node.Goals as goal

pub find-requires : goal.find-requires
find-requires c = let t = c.self.inside.tables in record { findable = findable_now t.changes.items (lists_of t) t.edges c.self.invariant.1 }

pub returns-in-Some : goal.returns-in-Some
returns-in-Some c =
    let n = c.args.n.now in
    let held = c.self.inside.tables.held.items in
    let h : held_in held n ≡ Some c.in-Some.held.now = sym c.find.ensures ∙ ap option_copied c.in-Some.is in
    sym (ap (λ (v : Versions). node_in v.now.nodes n) (sym c.self.view_is) ∙ node_held held n ∙ ap (option_map (λ (g : Held). g.node)) h)

pub returns-in-None : goal.returns-in-None
returns-in-None c =
    let n = c.args.n.now in
    let held = c.self.inside.tables.held.items in
    let h : held_in held n ≡ None = sym c.find.ensures ∙ ap option_copied c.in-None.is in
    sym (ap (λ (v : Versions). node_in v.now.nodes n) (sym c.self.view_is) ∙ node_held held n ∙ ap (option_map (λ (g : Held). g.node)) h)
