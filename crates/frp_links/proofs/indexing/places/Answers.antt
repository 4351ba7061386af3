use Rattle.std.proofs.Common.{◌≡◌, ◌++◌, ◌∷◌, [], Some, None, get_or, take, ◌+◌, sym, ap, ◌∙◌}
use Rattle.std.specs.BTreeMap.{get}
use Rattle.std.specs.Option.{option_copied, option_to_list}
use Rattle.std.proofs.lemmas.List.{get_or_read}
use Rattle.frp_base.specs.Name.{name_cmp}
use Rattle.frp_links.specs.Places.{places_of}
use Rattle.frp_links.proofs.Indices.{places_more, append_nothing}
use Rattle.frp_links.proofs.indexing.places.Goals.{in-Some+in_ok-add, in_default}
use Rattle.frp_links.proofs.indexing.places.Goals as goal

pub loop-name-preserved : goal.loop-name-preserved
loop-name-preserved c =
    let find = get name_cmp c.args.index.now in
    let ns = c.args.names.now in
    let i = c.loop-name.name-index in
    let n = c.name-item.result in
    let here : n ≡ get_or ns i [] = get_or_read ns i n c.loop-name-test.true c.name-item.is [] in
    let more : places_of find (take (i + 1) ns) ≡ places_of find (take i ns) ++ option_to_list (find n) =
    places_more find ns i c.loop-name-test.true ∙ ap (λ k. places_of find (take i ns) ++ option_to_list (find k)) (sym here) in
    elim c.match-get.branch [
      | in-Some+in_ok-add w ↦
          let found : find n ≡ Some w.in-Some.place.now = sym c.get.ensures.value ∙ ap option_copied w.in-Some.is in
          w.places-is ∙ w.in_ok-add.ensures.ok ∙ ap (λ ps. ps ++ w.in-Some.place.now ∷ []) c.loop-name.invariant
          ∙ sym (more ∙ ap (λ o. places_of find (take i ns) ++ option_to_list o) found)
      | in_default w ↦
          let found : find n ≡ None = sym c.get.ensures.value ∙ ap option_copied w.in_default.is in
          w.places-is ∙ c.loop-name.invariant
          ∙ sym (more ∙ ap (λ o. places_of find (take i ns) ++ option_to_list o) found ∙ append_nothing (places_of find (take i ns)))
    ]
