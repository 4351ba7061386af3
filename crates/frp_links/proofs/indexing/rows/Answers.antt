use Rattle.std.proofs.Common.{◌++◌, ◌∷◌, [], sym, ap, ◌∙◌}
use Rattle.std.specs.BTreeMap.{get}
use Rattle.frp_base.specs.Name.{name_cmp}
use Rattle.frp_graph.specs.declared.trace.Node.{Node}
use Rattle.frp_graph.specs.Trace.{Sight}
use Rattle.frp_graph.specs.Links.{links}
use Rattle.frp_links.specs.Places.{places_of}
use Rattle.frp_links.proofs.Lists.{map_step}
use Rattle.frp_links.proofs.indexing.rows.Goals as goal

pub loop-place-preserved : goal.loop-place-preserved
loop-place-preserved g c =
    let w : Sight = g.V.View.sight c.args.view.now in
    let find = get name_cmp c.args.index.now in
    let row = λ (x : Node). places_of find (links w c.args.phase x) in
    let x : Node = c.nth.result.now in
    c.in_ok-add.ensures.ok
    ∙ ap (λ ps. c.loop-place.rows ++ ps ∷ []) (c.in_ok-places.ensures ∙ ap (places_of find) (c.as_slice.ensures ∙ c.in_ok-links.ensures))
    ∙ ap (λ rows. rows ++ row x ∷ []) c.loop-place.invariant
    ∙ sym (map_step row (g.V.View.nodes c.args.view.now) c.loop-place.place x c.nth.ensures)
