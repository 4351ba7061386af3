use Rattle.std.proofs.Common.{sym, ap, ◌∙◌}
use Rattle.frp_store.specs.Undo.{undo_all}
use Rattle.frp_store.specs.Lists.{lists_of, state_in}
use Rattle.frp_store.proofs.Undoing.{popped_base}
use Rattle.frp_store.proofs.tables.Tables.roll_back.Goals as goal

pub loop-change-preserved : goal.loop-change-preserved
loop-change-preserved c = record {
  base =
      ap (λ v. state_in (undo_all v.items (lists_of c.undo.new.self))) c.undo.ensures.changes
      ∙ ap state_in (popped_base c.loop-change.self.changes.items c.pop.new.self.items c.in-Some.change (lists_of c.loop-change.self) (lists_of c.undo.new.self) c.in-Some.ensures.items
      (sym c.undo.ensures.lists))
      ∙ c.loop-change.invariant.base;
  kept = c.undo.ensures.kept;
}
