use Rattle.std.proofs.Common.{◌≡◌, ◌∷◌, ◌∙◌, refl, sym, ap, subst, reverse, slice_get}
use Rattle.std.specs.declared.cmp.Ordering.TheVariants.{Less}
use Rattle.frp_base.specs.Time.{time_cmp}
use Rattle.frp_agenda.specs.Due.{moved_to, IsLeast, IsInOrder}
use Rattle.frp_agenda.proofs.Order.{reverse_pushed, in_order_moved, first_is_least}
use Rattle.frp_agenda.proofs.agenda.Agenda.next.Goals as goal

due_is : (c : goal.After-self-4-1) → reverse c.self.inside.due.items ≡ c.in_ok-time.time ∷ reverse c.pop.new.self.items
due_is c = ap reverse c.in_ok-time.ensures.items ∙ reverse_pushed c.pop.new.self.items c.in_ok-time.time

in_order : (c : goal.After-self-4-1) → IsInOrder c.self.inside.present (c.in_ok-time.time ∷ reverse c.pop.new.self.items) c.self.inside.pushed
in_order c = subst (λ due. IsInOrder c.self.inside.present due c.self.inside.pushed) (due_is c) c.self.invariant

pub invariant_of-self-2 : goal.invariant_of-self-2
invariant_of-self-2 c = in_order_moved _ _ _ _ (subst (λ due. IsInOrder c.self.inside.present due c.self.inside.pushed) (ap reverse c.in_ok-time.ensures.items ∙ reverse_pushed c.pop.new.self.items c.in_ok-time.time) c.self.invariant)

pub returns : goal.returns
returns c = (
  (refl, λ _. tt, ap (moved_to c.args.self.now) (sym (due_is c)) ∙ ap (λ v. moved_to c.args.self.now v.due) c.self.view_is),
  record {
    moved = tt;
    time = ap (λ due. slice_get due 0) (sym (due_is c)) ∙ ap (λ v. slice_get v.due 0) c.self.view_is;
    least = subst (λ v. IsLeast c.in_ok-time.time v.due) c.self.view_is (subst (IsLeast c.in_ok-time.time) (sym (due_is c)) (first_is_least _ _ _ _ (in_order c)));
    after = subst (λ v. time_cmp v.present c.in_ok-time.time ≡ Less) c.self.view_is (in_order c).after.0;
  },
)
