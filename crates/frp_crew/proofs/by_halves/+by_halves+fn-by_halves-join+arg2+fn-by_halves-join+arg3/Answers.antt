use Rattle.std.proofs.Common.{◌≡◌, ◌++◌, IfOk, subst, ap, sym, ◌∙◌, rules}
use Rattle.std.proofs.lemmas.List.{take-append-drop}
use Rattle.frp_crew.specs.Answers.{AreAnswers}
use Rattle.frp_crew.proofs.Joining.{halves_joined}
use Rattle.frp_crew.proofs.by_halves.+by_halves+fn-by_halves-join+arg2+fn-by_halves-join+arg3.Goals as goal

pub returns : goal.returns
returns g _ c =
    let left = c.split_at.result.0.now in
    let right = c.split_at.result.1.now in
    let whole : left ++ right ≡ c.args.items.now = search (rules, take-append-drop) in
    subst (λ items. IfOk c.joined.result (λ v. AreAnswers g.F.Fn c.args.f.now items v.items)) whole
    (halves_joined g.F.Fn c.args.f.now left right c.join-front.result.0 c.join-front.result.1 c.joined.result (search rules) (search rules) c.joined.ensures)
