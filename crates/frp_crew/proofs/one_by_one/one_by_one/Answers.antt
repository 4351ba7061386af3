use Rattle.std.proofs.Common.{◌∷◌, [], ◌++◌, ◌∙◌, Ok, take, sym, ap, subst, refl}
use Rattle.std.specs.Fn.{FnReturnsAt}
use Rattle.std.proofs.lemmas.List.{take_more}
use Rattle.std.proofs.lemmas.Slice.Zip.{all_zipped_more}
use Rattle.frp_crew.specs.Answers.{AreAnswers}
use Rattle.frp_crew.proofs.one_by_one.one_by_one.Goals as goal

pub loop-item-preserved : goal.loop-item-preserved
loop-item-preserved g c =
    let items = c.args.items.now in
    let item = c.item-item.result in
    let more = take_more items c.loop-item.item-index item c.loop-item-test.true ∙ ap (λ x. take c.loop-item.item-index items ++ x ∷ []) (sym c.item-item.is) in
    let said : FnReturnsAt g.F.Fn c.args.f.now item c.f.result = record { shown = _; shows = refl; says = record { met = c.f.ensures } } in
    let answered : FnReturnsAt g.F.Fn c.args.f.now item (Ok c.in_ok-f.field-0) = subst (FnReturnsAt g.F.Fn c.args.f.now item) c.in_ok-f.was said in
    subst (λ xs. AreAnswers g.F.Fn c.args.f.now xs c.push.new.self.items) (sym more)
    (subst (AreAnswers g.F.Fn c.args.f.now (take c.loop-item.item-index items ++ item ∷ [])) (sym c.in_ok-push.ensures.items)
    (all_zipped_more _ _ _ item c.in_ok-f.field-0 c.loop-item.invariant answered))
