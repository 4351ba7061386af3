-- Laws that show what the definitions of expressions are worth.
use Rattle.std.specs.Prelude.{◌≡◌, List, Option, Some, IsTrue}
use Rattle.std.specs.Result.{result_ok}
use Rattle.frp_base.specs.declared.name.Name.{Name}
use Rattle.frp_base.specs.declared.ty.Ty.{Ty}
use Rattle.frp_base.specs.declared.val.Val.{Val}
use Rattle.frp_expr.specs.declared.expr.Expr.{Expr}
use Rattle.frp_expr.specs.declared.raw.Raw.{Raw}
use Rattle.frp_expr.specs.Eval.{eval}
use Rattle.frp_expr.specs.Scope.{Named, Fun, names_of, types_of, fun_names, sigs_of}
use Rattle.frp_expr.specs.Raw.{is_lawful, resolve, typing}
use Rattle.frp_expr.specs.Typing.{Sig, type_in}
use Rattle.frp_expr.specs.Values.{is_of, are_of}

-- the value of an expression of a type, over values of the types of its variables, is of its type
abbrev pub EvalIsTyped : Type 0
EvalIsTyped = (node_type : Name → Option Ty) (sigs : List Sig) (e : Expr) (vs : List Val) (ts : List Ty) (x : Ty)
    → IsTrue (are_of node_type sigs vs ts) → type_in sigs e ts ≡ Some x → IsTrue (is_of node_type sigs (eval e vs) x)

-- The typing of a lawful written expression finds a type exactly where the expression that it stands for has it.
abbrev pub TypingAgrees : Type 0
TypingAgrees = (funs : List Fun) (r : Raw) (ns : List Named) → IsTrue (is_lawful r)
    → result_ok (typing funs r ns) ≡ type_in (sigs_of funs) (resolve (fun_names funs) r (names_of ns)) (types_of ns)

-- A value of a type where some nodes are there is of it where more are there too.
abbrev pub ValuesStay : Type 0
ValuesStay = (few many : Name → Option Ty) (sigs : List Sig) (v : Val) (x : Ty) → ((n : Name) (y : Ty) → few n ≡ Some y → many n ≡ Some y)
    → IsTrue (is_of few sigs v x) → IsTrue (is_of many sigs v x)
