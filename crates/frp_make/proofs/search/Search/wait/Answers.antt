use Rattle.std.proofs.Common.{◌≡◌, ◌∷◌, ◌++◌, [], List, ℕ, set, sym, ap, ◌∙◌, subst}
use Rattle.std.specs.BTreeMap.{get}
use Rattle.std.proofs.lemmas.List.{get_or_read}
use Rattle.frp_base.specs.Name.{name_cmp}
use Rattle.frp_order.specs.Rings.{row}
use Rattle.frp_make.specs.Search.{state_of, pushed, GoesOn}
use Rattle.frp_make.proofs.Steps.{next_inside, wait_goes}
use Rattle.frp_make.proofs.search.Search.wait.Goals as goal

pub returns : goal.returns
returns g c =
    let prog = g.V.View.prog_of c.args.view.now in
    let w = g.V.View.sight c.args.view.now in
    let find = get name_cmp c.args.index.now in
    let s = state_of c.args.self.now in
    let inside = next_inside prog w c.requires.firsts find s c.args.place c.requires.search c.args.next c.requires.waits in
    let was : c.index_mut.result.now ≡ row s.waiting c.args.next = get_or_read s.waiting c.args.next c.index_mut.result.now inside c.index_mut.ensures.value [] in
    let more : c.add.new.self ≡ row s.waiting c.args.next ++ c.args.place ∷ [] = c.in_ok-add.ensures.ok ∙ ap (λ (xs : List ℕ). xs ++ c.args.place ∷ []) was in
    subst (λ xs. GoesOn prog w find (pushed s c.args.place) (record { nodes = s.nodes; todo = s.todo; waiting = set s.waiting c.args.next xs })) (sym more)
    (wait_goes prog w c.requires.firsts find s c.args.place c.requires.search c.args.next c.requires.waits)
