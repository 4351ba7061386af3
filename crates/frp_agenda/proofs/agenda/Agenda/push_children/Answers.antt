use Rattle.std.proofs.Common.{◌++◌, ◌∙◌, sym, ap, subst, reverse, true}
use Rattle.std.proofs.lemmas.List.{reverse-append}
use Rattle.frp_agenda.specs.Due.{IsInOrder}
use Rattle.frp_agenda.proofs.Order.{in_order_pushed}
use Rattle.frp_agenda.proofs.agenda.Agenda.push_children.Goals as goal

pub invariant_of-self-2 : goal.invariant_of-self-2
invariant_of-self-2 c =
    let due = c.self.inside.due.items in
    let not_pushed = ap (λ v. v.pushed) c.self.view_is ∙ c.requires.once in
    let all = ap reverse c.in_ok-append.ensures.items ∙ reverse-append due c.in_ok-children.children.items ∙ ap (λ front. front ++ reverse due) c.in_ok-children.ensures in
    subst (λ after. IsInOrder c.self.inside.present after true) (sym all)
    (in_order_pushed c.self.inside.present c.args.n (reverse due) (subst (IsInOrder c.self.inside.present (reverse due)) not_pushed c.self.invariant))
