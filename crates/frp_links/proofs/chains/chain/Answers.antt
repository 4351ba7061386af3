use Rattle.std.proofs.Common.{◌≡◌, ◌<◌, ◌++◌, ℕ, List, length, map, take, drop, true, sym, ap, ◌∙◌, subst}
use Rattle.std.specs.Prelude.{slice_index}
use Rattle.std.specs.BTreeMap.{get}
use Rattle.frp_base.specs.declared.name.Name.{Name}
use Rattle.frp_base.specs.Name.{name_cmp}
use Rattle.frp_graph.specs.Links.{is_linked, is_closed_chain}
use Rattle.frp_order.specs.declared.found.Found.TheVariants.{Ring, Order}
use Rattle.frp_order.specs.Rings.{AreInside, IsRing, IsOrder}
use Rattle.frp_order.specs.Found.{IsFound}
use Rattle.frp_links.specs.Places.{rows_of, name_at, IsLeast}
use Rattle.frp_links.proofs.Placing.{links_inside, chainless}
use Rattle.frp_links.proofs.Chaining.{in_nodes, name_ring}
use Rattle.frp_links.proofs.Turning.{IsNameRing, turned_closes}
use Rattle.frp_links.proofs.chains.chain.Goals as goal

pub sort-requires : goal.sort-requires
sort-requires g c =
    let w = g.V.View.sight c.args.view.now in
    let nodes = g.V.View.nodes c.args.view.now in
    let find = get name_cmp c.in_ok-index.index in
    let rows : c.as_slice.result.now ≡ rows_of w c.args.phase find nodes = c.as_slice.ensures ∙ c.in_ok-rows.ensures in
    subst AreInside (sym rows) (links_inside w c.args.phase nodes find c.requires.named c.in_ok-index.ensures.live c.in_ok-index.ensures.places)

pub names_at-requires : goal.names_at-requires
names_at-requires g c =
    let w = g.V.View.sight c.args.view.now in
    let nodes = g.V.View.nodes c.args.view.now in
    let find = get name_cmp c.in_ok-index.index in
    let rows : c.as_slice.result.now ≡ rows_of w c.args.phase find nodes = c.as_slice.ensures ∙ c.in_ok-rows.ensures in
    let ring : IsRing (rows_of w c.args.phase find nodes) c.in-Ring.ring = subst (λ r. IsFound r (Ring c.in-Ring.ring)) rows (subst (IsFound c.as_slice.result.now) c.in-Ring.is c.in_ok-ring.ensures) in
    subst (λ ps. (i : ℕ) → i < length ps → slice_index ps i < length nodes) (sym c.as_slice-in-Ring.ensures)
    (in_nodes w c.args.phase nodes find c.requires.named c.in_ok-index.ensures.live c.in_ok-index.ensures.places c.in-Ring.ring ring)

pub returns-in-Ring : goal.returns-in-Ring
returns-in-Ring g c =
    let w = g.V.View.sight c.args.view.now in
    let nodes = g.V.View.nodes c.args.view.now in
    let find = get name_cmp c.in_ok-index.index in
    let linked = is_linked w c.args.phase in
    let rows : c.as_slice.result.now ≡ rows_of w c.args.phase find nodes = c.as_slice.ensures ∙ c.in_ok-rows.ensures in
    let ring : IsRing (rows_of w c.args.phase find nodes) c.in-Ring.ring = subst (λ r. IsFound r (Ring c.in-Ring.ring)) rows (subst (IsFound c.as_slice.result.now) c.in-Ring.is c.in_ok-ring.ensures) in
    let ns : List Name = c.in_ok-names_at-in-Ring.field-0.items in
    let named : ns ≡ map (name_at nodes) c.in-Ring.ring = c.in_ok-names_at-in-Ring.ensures ∙ ap (map (name_at nodes)) c.as_slice-in-Ring.ensures in
    let names : IsNameRing linked ns = subst (IsNameRing linked) (sym named)
    (name_ring w c.args.phase nodes find c.requires.named c.in_ok-index.ensures.live c.in_ok-index.ensures.places c.in-Ring.ring ring) in
    let t : (i : ℕ) × (i < length ns) × IsLeast ns i × (c.turned.result ≡ drop i ns ++ take i ns) = c.turned.ensures in
    subst (λ ks. is_closed_chain linked ks ≡ true) (sym t.3) (turned_closes linked ns names t.0 t.1 t.2)

pub returns : goal.returns
returns g c =
    let w = g.V.View.sight c.args.view.now in
    let nodes = g.V.View.nodes c.args.view.now in
    let find = get name_cmp c.in_ok-index.index in
    let rows : c.as_slice.result.now ≡ rows_of w c.args.phase find nodes = c.as_slice.ensures ∙ c.in_ok-rows.ensures in
    let order : IsOrder (rows_of w c.args.phase find nodes) c.in-Order.field-0 = subst (λ r. IsFound r (Order c.in-Order.field-0)) rows (subst (IsFound c.as_slice.result.now) c.in-Order.is c.in_ok-ring.ensures) in
    chainless w c.args.phase nodes find c.requires.named c.in_ok-index.ensures.live c.in_ok-index.ensures.places c.in-Order.field-0 order
