use Rattle.std.proofs.Common.{◌≡◌, vec_len}
use Rattle.frp_store.specs.Undo.{unwritten}
use Rattle.frp_store.proofs.tables.Tables.step_back.Given as goal

abbrev pub invariant-loop-step : goal.invariant-loop-step
invariant-loop-step l = record {
  held : unwritten l.steps.items l.self.held.items ≡ unwritten l.fn.steps.items l.fn.self.held.items;
  rest : l.self ≡ record l.fn.self { held = l.self.held };
}

abbrev pub decreases-loop-step : goal.decreases-loop-step
decreases-loop-step l = vec_len l.steps
