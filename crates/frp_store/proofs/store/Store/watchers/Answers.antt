use Rattle.std.proofs.Common.{sym, ap, ◌∙◌, subst}
use Rattle.frp_store.specs.State.{Versions}
use Rattle.frp_store.specs.Places.{ArePlaces, numbers}
use Rattle.frp_store.specs.Dependents.{watchers_of}
use Rattle.frp_store.specs.Edges.{watches}
use Rattle.frp_store.specs.Lists.{nodes_of}
use Rattle.frp_store.specs.Kept.{state_of}
use Rattle.frp_store.proofs.Rising.{places_same}
use Rattle.frp_store.proofs.Listing.{watchers_are}
use Rattle.frp_store.proofs.store.Store.watchers.Goals as goal

pub returns-clause-these : goal.returns-clause-these
returns-clause-these c =
    let t = c.self.inside.tables in
    c.as_slice.ensures
    ∙ places_same _ (watchers_of (state_of t) c.args.p.0) (watches (nodes_of t.held.items) c.args.p.0) (c.self.invariant.1.linked.listed.watchers c.args.p.0 _ c.get.ensures) (watchers_are (state_of t) c.args.p.0)
    ∙ ap (λ (v : Versions). watchers_of v.now c.args.p.0) c.self.view_is

pub returns-clause-each : goal.returns-clause-each
returns-clause-each c =
    let t = c.self.inside.tables in
    subst (λ (v : Versions). ArePlaces (numbers c.as_slice.result.now) (watches v.now.nodes c.args.p.0)) c.self.view_is
    (subst (λ ps. ArePlaces ps (watches (nodes_of t.held.items) c.args.p.0)) (sym c.as_slice.ensures) (c.self.invariant.1.linked.listed.watchers c.args.p.0 _ c.get.ensures))
