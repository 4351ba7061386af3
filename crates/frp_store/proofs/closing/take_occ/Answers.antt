use Rattle.std.proofs.Common.{◌++◌, sym, ap, ◌∙◌}
use Rattle.frp_store.specs.Closing.{at, held_before, steps_from, taken_steps}
use Rattle.frp_store.proofs.Taking.{before_beside}
use Rattle.frp_store.proofs.closing.take_occ.Goals as goal

pub returns-in-Some-clause-steps : goal.returns-in-Some-clause-steps
returns-in-Some-clause-steps c =
    let p = c.args.place in
    let ss = c.args.steps.now.items in
    let after = c.args.closing.after in
    let held = c.args.held.now.items in
    c.step.ensures.steps
    ∙ ap (λ b. ss ++ steps_from p after b) (ap (λ hs. at held_before hs p) c.put_occ.ensures.held ∙ before_beside p _ held)
    ∙ ap (λ o. ss ++ taken_steps p o after (at held_before held p)) (sym c.in-Some.is ∙ c.put_occ.ensures.value)
