use Rattle.std.proofs.Common.{◌≡◌, drop}
use Rattle.std.specs.List.{list_any}
use Rattle.frp_base.specs.declared.text.Text.{Text}
use Rattle.frp_expr.specs.Scope.{text_eq, names_of}
use Rattle.frp_type.proofs.names.is_declared.Given as goal

abbrev pub invariant-loop-entry : goal.invariant-loop-entry
invariant-loop-entry l = list_any (λ (m : Text). text_eq m l.name) (names_of (drop l.entry-index l.names)) ≡ list_any (λ (m : Text). text_eq m l.name) (names_of l.fn.names)
