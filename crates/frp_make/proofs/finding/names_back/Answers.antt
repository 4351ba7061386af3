use Rattle.std.proofs.Common.{◌≡◌, ◌∷◌, ◌++◌, [], get_or, ap, sym, ◌∙◌}
use Rattle.std.specs.Prelude.{option_map, unwrap_or}
use Rattle.std.proofs.lemmas.List.{map_more}
use Rattle.frp_graph.specs.declared.trace.Node.{Node}
use Rattle.frp_graph.proofs.Options.{index_is}
use Rattle.frp_make.specs.Firsts.{name_at}
use Rattle.frp_make.proofs.Items.{get_there}
use Rattle.frp_make.proofs.finding.names_back.Goals as goal

pub loop-place-preserved : goal.loop-place-preserved
loop-place-preserved c =
    let nodes = c.args.nodes.now in
    let i = c.loop-place.place-index in
    let p = get_or c.args.places.now i 0 in
    let x = get_there nodes p (c.requires i c.loop-place-test.true) in
    let named : name_at nodes p ≡ x.0.name = ap (λ o. unwrap_or (option_map (λ (y : Node). y.name) o) []) x.1 in
    let name : c.in_ok-copy.field-0 ≡ name_at nodes p = c.in_ok-copy.ensures ∙ ap (λ (y : Node). y.name) (index_is nodes p c.index-nodes-place.result x.0 x.1) ∙ sym named in
    c.in_ok-push.ensures.items ∙ (λ k. c.loop-place.invariant k ++ name k ∷ []) ∙ sym (map_more (name_at nodes) c.args.places.now i 0 c.loop-place-test.true)
