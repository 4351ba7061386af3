use Rattle.std.proofs.Common.{◌≡◌, ◌∙◌, Some, length, map, refl, sym, ap, subst, arith}
use Rattle.std.specs.Prelude.{slice_get}
use Rattle.std.proofs.lemmas.Option.{slice_get_read, slice_get_within}
use Rattle.std.specs.List.Sorted.{IsStrictlySortedBy}
use Rattle.frp_base.specs.Name.{name_cmp}
use Rattle.frp_graph.specs.declared.trace.Fact.{Fact}
use Rattle.frp_graph.specs.declared.trace.Moment.{Moment}
use Rattle.frp_graph.specs.Trace.{fact_in}
use Rattle.frp_graph.proofs.Options.{some_is}
use Rattle.frp_store.specs.State.{Versions, above_in}
use Rattle.frp_store.specs.Lists.{lists_of}
use Rattle.frp_store.specs.Kept.{IsAbove, HasRisingFacts}
use Rattle.frp_store.proofs.Keeping.{sound_now}
use Rattle.frp_store.proofs.Timing.{all_got}
use Rattle.frp_store.proofs.Showing.{above_shown, above_hidden}
use Rattle.frp_store.proofs.view.StoreView.above.Goals as goal

pub index-requires : goal.index-requires
index-requires c =
    let t = c.self.inside.tables in
    let k = (sound_now t.changes.items (lists_of t) t.edges c.self.invariant.1).above in
    let a = above_shown t.begun t.past.items c.in-Some.number c.args.n.now (subst (IsAbove t.begun t.past.items) c.in-Some.is k) in
    let w = slice_get_within t.past.items c.in-Some.number a.0 a.1 in
    let o = t.past.ok.0 in
    omega arith

pub value_in-requires : goal.value_in-requires
value_in-requires c =
    let t = c.self.inside.tables in
    let n = c.args.n.now in
    let i = c.in-Some.number in
    let ms = t.past.items in
    let k = sound_now t.changes.items (lists_of t) t.edges c.self.invariant.1 in
    let a = above_shown t.begun ms i n (subst (IsAbove t.begun ms) c.in-Some.is k.above) in
    let m = c.index.result.now in
    let read : slice_get ms i ≡ Some m = slice_get_read ms (length ms) i m refl (slice_get_within ms i a.0 a.1) c.index.ensures in
    record { rising = subst (λ fs. IsStrictlySortedBy name_cmp (map (λ (f : Fact). f.node) fs)) (sym c.as_slice.ensures) (all_got HasRisingFacts ms i m k.facts read) }

pub returns-in-Some : goal.returns-in-Some
returns-in-Some c =
    let t = c.self.inside.tables in
    let n = c.args.n.now in
    let i = c.in-Some.number in
    let ms = t.past.items in
    let k = (sound_now t.changes.items (lists_of t) t.edges c.self.invariant.1).above in
    let a = above_shown t.begun ms i n (subst (IsAbove t.begun ms) c.in-Some.is k) in
    let m = c.index.result.now in
    let read : slice_get ms i ≡ Some m = slice_get_read ms (length ms) i m refl (slice_get_within ms i a.0 a.1) c.index.ensures in
    let same : m ≡ a.0 = some_is a.0 m (sym a.1 ∙ read) in
    c.value_in.ensures ∙ ap (λ fs. fact_in fs n) c.as_slice.ensures ∙ ap (λ (z : Moment). fact_in z.fired n) same ∙ a.2
    ∙ ap (λ (v : Versions). above_in v.now.begun v.now.past n) c.self.view_is

pub returns-in-None : goal.returns-in-None
returns-in-None c =
    let t = c.self.inside.tables in
    let k = (sound_now t.changes.items (lists_of t) t.edges c.self.invariant.1).above in
    sym (above_hidden t.begun t.past.items c.args.n.now (subst (IsAbove t.begun t.past.items) c.in-None.is k))
    ∙ ap (λ (v : Versions). above_in v.now.begun v.now.past c.args.n.now) c.self.view_is
