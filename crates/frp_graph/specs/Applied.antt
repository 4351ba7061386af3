-- What an expression of the program, and a function value, give when they are applied to arguments, and the node that a
-- reference names.
use Rattle.std.specs.Prelude.{pos, List, [], ◌∷◌, ◌++◌, Option, Some, None, option_map, slice_get, slice_index_or}
use Rattle.frp_base.specs.declared.name.Name.{Name}
use Rattle.frp_base.specs.declared.val.Val.{Val, out-Val}
use Rattle.frp_base.specs.declared.val.Val.TheOpen.{Val-F}
use Rattle.frp_base.specs.declared.val.Val.TheOpen as o
use Rattle.frp_expr.specs.declared.expr.Expr.{Expr}
use Rattle.frp_expr.specs.declared.expr.Expr.TheVariants as ex
use Rattle.frp_expr.specs.Eval.{eval}
use Rattle.frp_graph.specs.declared.prog.FunDef.{FunDef}
use Rattle.frp_graph.specs.declared.prog.Prog.{Prog}
use Rattle.frp_graph.specs.declared.shape.Lam.{Lam}

-- one of these expressions, by its number, on its kept values followed by the arguments
abbrev pub code_on : List Expr → Lam → List Val → Val
code_on codes f args = eval (slice_index_or codes f.code (ex.Int (pos 0))) (f.kept ++ args)

abbrev pub call : Prog → Lam → List Val → Val
call prog = code_on prog.codes

-- a value as a function of these: its function's expression on its kept values followed by the argument
abbrev pub fun_on : List FunDef → Val-F Val → Val → Option Val
fun_on funs (o.Fun f kept) a = option_map (λ d. eval d.e (kept ++ a ∷ [])) (slice_get funs f)
fun_on funs _ a = None

abbrev pub applied : Prog → Val → Val → Option Val
applied prog f a = fun_on prog.funs (out-Val f) a

-- the node that a value refers to (no node has the empty name)
abbrev pub name_in : Val-F Val → Name
name_in (o.Stream n) = n
name_in (o.Cell n) = n
name_in _ = []

abbrev pub target : Val → Name
target x = name_in (out-Val x)

-- what an optional value holds, where it is present
abbrev pub present_in : Val-F Val → Option Val
present_in (o.Present x) = Some x
present_in _ = None
