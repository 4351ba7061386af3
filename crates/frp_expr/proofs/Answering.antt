-- From the typing over the names in scope, with none bound, to what is answered.
use Rattle.std.proofs.Common.{◌≡◌, true, List, [], ◌++◌, length, Ok, Err, sym, ap, ◌∙◌, subst}
use Rattle.std.specs.Result.{result_ok}
use Rattle.std.proofs.lemmas.List.{append-nil}
use Rattle.frp_base.specs.declared.text.Text.{Text}
use Rattle.frp_base.specs.declared.ty.Ty.{Ty}
use Rattle.frp_expr.specs.Typing.{type_in}
use Rattle.frp_expr.specs.Scope.{Named, names_of, types_of, fun_names, sigs_of}
use Rattle.frp_expr.specs.Raw.{ExprOutcome, is_lawful, resolve, typing}
use Rattle.frp_expr.specs.Gives.{ExprStops}
use Rattle.frp_expr.specs.Uses.{uses}
use Rattle.frp_expr.specs.TypeOf.{meant, IsTypingOf, IsFirstFault}
use Rattle.frp_expr.specs.declared.expr.Expr.{Expr}
use Rattle.frp_expr.specs.declared.fault.ExprStop.{ExprStop}
use Rattle.frp_expr.specs.declared.fault.ExprStop.TheVariants as stop
use Rattle.frp_expr.specs.declared.fault.TypeFault.{TypeFault}
use Rattle.frp_expr.specs.declared.raw.Raw.{Raw}
use Rattle.frp_expr.specs.declared.scope.Scope.{Scope}
use Rattle.frp_expr.specs.declared.scope.Typing.{Typing}
use Rattle.frp_expr.proofs.TypingAgrees.{agrees}

module _ (scope : Scope) (raw : Raw) where
  none_bound : (bound : List Named) → bound ≡ [] → typing scope.funs raw (scope.names ++ bound) ≡ typing scope.funs raw scope.names
  none_bound bound e = ap (λ bs. typing scope.funs raw (scope.names ++ bs)) e ∙ ap (typing scope.funs raw) (append-nil scope.names)

  -- what the expression has as its type, by its outcome
  type_by : (o : ExprOutcome Ty) → is_lawful raw ≡ true → typing scope.funs raw scope.names ≡ o → type_in (sigs_of scope.funs) (meant scope raw) (types_of scope.names) ≡ result_ok o
  type_by o h e = sym (agrees scope.funs raw scope.names h) ∙ ap result_ok e

  pub fault_found : (bound : List Named) (s : ExprStop) (f : TypeFault) → bound ≡ [] → is_lawful raw ≡ true → ExprStops s (typing scope.funs raw (scope.names ++ bound)) → s ≡ stop.Fault f → IsFirstFault scope raw f
  fault_found bound s f e h p q =
      let p' : typing scope.funs raw (scope.names ++ bound) ≡ Err f = subst (λ (s : ExprStop). ExprStops s (typing scope.funs raw (scope.names ++ bound))) q p in
      let first : typing scope.funs raw scope.names ≡ Err f = sym (none_bound bound e) ∙ p' in
      record { first = first; untyped = type_by (Err f) h first }

  pub typing_found : (bound : List Named) (names : List Text) (t : Typing) → bound ≡ [] → names ≡ [] → is_lawful raw ≡ true → typing scope.funs raw (scope.names ++ bound) ≡ Ok t.ty
      → t.expr ≡ resolve (fun_names scope.funs) raw (names_of scope.names ++ names) → t.used ≡ uses (length scope.names) t.expr → IsTypingOf scope raw t
  typing_found bound names t e d h p q u =
      let faultless : typing scope.funs raw scope.names ≡ Ok t.ty = sym (none_bound bound e) ∙ p in
      let stands : t.expr ≡ meant scope raw = q ∙ ap (λ ns. resolve (fun_names scope.funs) raw (names_of scope.names ++ ns)) d ∙ ap (resolve (fun_names scope.funs) raw) (append-nil (names_of scope.names)) in
      record { faultless = faultless; stands_for = stands; has_type = ap (λ (f : Expr). type_in (sigs_of scope.funs) f (types_of scope.names)) stands ∙ type_by (Ok t.ty) h faultless; uses_these = u }
