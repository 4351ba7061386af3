use Rattle.std.proofs.Common.{sym, ap, ◌∙◌, subst}
use Rattle.frp_store.specs.State.{Versions}
use Rattle.frp_store.specs.Places.{ArePlaces, numbers}
use Rattle.frp_store.specs.Dependents.{dependents_of}
use Rattle.frp_store.specs.Edges.{depends}
use Rattle.frp_store.specs.Lists.{nodes_of, targets_of}
use Rattle.frp_store.specs.Kept.{state_of}
use Rattle.frp_store.proofs.Rising.{places_same}
use Rattle.frp_store.proofs.Listing.{dependents_are}
use Rattle.frp_store.proofs.store.Store.dependents.Goals as goal

pub returns-clause-these : goal.returns-clause-these
returns-clause-these c =
    let t = c.self.inside.tables in
    c.as_slice.ensures
    ∙ places_same _ (dependents_of (state_of t) c.args.p.0) (depends (nodes_of t.held.items) (targets_of t.held.items) c.args.p.0) (c.self.invariant.1.linked.listed.nodes c.args.p.0 _ c.get.ensures) (dependents_are (state_of t) c.args.p.0)
    ∙ ap (λ (v : Versions). dependents_of v.now c.args.p.0) c.self.view_is

pub returns-clause-each : goal.returns-clause-each
returns-clause-each c =
    let t = c.self.inside.tables in
    subst (λ (v : Versions). ArePlaces (numbers c.as_slice.result.now) (depends v.now.nodes v.now.targets c.args.p.0)) c.self.view_is
    (subst (λ ps. ArePlaces ps (depends (nodes_of t.held.items) (targets_of t.held.items) c.args.p.0)) (sym c.as_slice.ensures) (c.self.invariant.1.linked.listed.nodes c.args.p.0 _ c.get.ensures))
