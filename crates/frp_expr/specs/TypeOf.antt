-- What is answered for a written expression in a scope: its typing, or its first fault.
use Rattle.std.specs.Prelude.{◌≡◌, length, Some, None, Ok, Err}
use Rattle.frp_expr.specs.Typing.{type_in}
use Rattle.frp_expr.specs.Scope.{names_of, types_of, fun_names, sigs_of}
use Rattle.frp_expr.specs.Raw.{resolve, typing}
use Rattle.frp_expr.specs.Uses.{uses}
use Rattle.frp_expr.specs.declared.expr.Expr.{Expr}
use Rattle.frp_expr.specs.declared.fault.TypeFault.{TypeFault}
use Rattle.frp_expr.specs.declared.raw.Raw.{Raw}
use Rattle.frp_expr.specs.declared.scope.Scope.{Scope}
use Rattle.frp_expr.specs.declared.scope.Typing.{Typing}

-- the expression that is written
abbrev pub meant : Scope → Raw → Expr
meant scope raw = resolve (fun_names scope.funs) raw (names_of scope.names)

-- It has no fault, it stands for this expression, which has this type, and these are the entries that it uses.
pub record IsTypingOf (scope : Scope) (raw : Raw) (t : Typing) : Type 0 where
  pub faultless : typing scope.funs raw scope.names ≡ Ok t.ty
  pub stands_for : t.expr ≡ meant scope raw
  pub has_type : type_in (sigs_of scope.funs) t.expr (types_of scope.names) ≡ Some t.ty
  pub uses_these : t.used ≡ uses (length scope.names) t.expr

-- This is its first fault, and what it stands for has no type.
pub record IsFirstFault (scope : Scope) (raw : Raw) (f : TypeFault) : Type 0 where
  pub first : typing scope.funs raw scope.names ≡ Err f
  pub untyped : type_in (sigs_of scope.funs) (meant scope raw) (types_of scope.names) ≡ None
