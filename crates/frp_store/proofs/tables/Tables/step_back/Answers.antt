use Rattle.std.proofs.Common.{sym, ap, ◌∙◌}
use Rattle.frp_store.specs.declared.tables.Tables.{Tables}
use Rattle.frp_store.specs.Undo.{unwritten}
use Rattle.frp_store.proofs.Taking.{unwritten_more}
use Rattle.frp_store.proofs.tables.Tables.step_back.Goals as goal

pub loop-step-preserved : goal.loop-step-preserved
loop-step-preserved c =
    let old = c.loop-step.self in
    let left = c.pop.new.self.items in
    let step = c.in-Some.step in
    record {
      held =
          ap (unwritten left) c.write_before.ensures ∙ sym (unwritten_more left step old.held.items) ∙ ap (λ ss. unwritten ss old.held.items) (sym c.in-Some.ensures.items)
          ∙ c.loop-step.invariant.held;
      rest = ap (λ (t : Tables). record t { held = c.write_before.new.held }) c.loop-step.invariant.rest;
    }
