use Rattle.std.proofs.Common.{◌≡◌, drop}
use Rattle.std.specs.List.{list_any}
use Rattle.frp_base.specs.declared.text.Text.{Text}
use Rattle.frp_expr.specs.Scope.{text_eq, fun_names}
use Rattle.frp_type.proofs.names.is_fun.Given as goal

abbrev pub invariant-loop-entry : goal.invariant-loop-entry
invariant-loop-entry l = list_any (λ (m : Text). text_eq m l.name) (fun_names (drop l.entry-index l.funs)) ≡ list_any (λ (m : Text). text_eq m l.name) (fun_names l.fn.funs)
