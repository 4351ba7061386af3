use Rattle.std.proofs.Common.{◌<◌, length, refl, sym, ap, ◌∙◌}
use Rattle.std.specs.Prelude.{slice_get, slice_index_or}
use Rattle.std.proofs.lemmas.Option.{slice_get-get_or}
use Rattle.frp_base.specs.declared.place.Place.{Place}
use Rattle.frp_store.specs.declared.held.Held.{Held}
use Rattle.frp_store.specs.Places.{numbers}
use Rattle.frp_store.specs.Edges.{links_to}
use Rattle.frp_store.specs.Lists.{nodes_of}
use Rattle.frp_store.proofs.Rising.{number_got}
use Rattle.frp_store.proofs.Setting.{get_map}
use Rattle.frp_store.proofs.Waiting.{tried_more, tried_inside}
use Rattle.frp_store.proofs.tables.Tables.linked_before.Goals as goal

pub get-requires : goal.get-requires
get-requires c =
    let ps = c.as_slice-place-items.result.now in
    let i = c.loop-place.place-index in
    tried_inside (λ p. p < length c.args.self.now.held.items) ps c.args.self.now.edges.wanting.items i _ c.loop-place.invariant.all (slice_get-get_or ps i (record { 0 = 0 }) c.loop-place-test.true) c.requires.inside

pub loop-place-preserved : goal.loop-place-preserved
loop-place-preserved c =
    let s = c.args.self.now in
    let ps = c.as_slice-place-items.result.now in
    let i = c.loop-place.place-index in
    let p : Place = slice_index_or ps i (record { 0 = 0 }) in
    record {
      all = c.loop-place.invariant.all;
      places = tried_more (numbers ps) i _ p.0 (λ r. links_to (slice_get (nodes_of s.held.items) r) c.args.name.now) c.loop-place.nodes.items _ c.is_linked_to.result refl
          (number_got ps i p (slice_get-get_or ps i (record { 0 = 0 }) c.loop-place-test.true))
          (c.is_linked_to.ensures ∙ sym (ap (λ o. links_to o c.args.name.now) (get_map (λ (h : Held). h.node) s.held.items p.0 c.get.result.now c.get.ensures)))
          c.in_ok-add_where.ensures c.loop-place.invariant.places;
    }
