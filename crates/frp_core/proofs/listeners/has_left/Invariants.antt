use Rattle.std.proofs.Common.{◌≡◌, drop}
use Rattle.std.specs.List.{list_any}
use Rattle.frp_history.specs.Listeners.{is_leave}
use Rattle.frp_core.proofs.listeners.has_left.Given as goal

abbrev pub invariant-loop-entry : goal.invariant-loop-entry
invariant-loop-entry l = list_any (λ e. is_leave l.key e.cmd e.reply) (drop l.entry-index l.entries) ≡ list_any (λ e. is_leave l.key e.cmd e.reply) l.fn.entries
