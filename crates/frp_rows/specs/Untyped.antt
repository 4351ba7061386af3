-- A function over lists of lists, which are no type of the language: a program with it is not typed.
use Rattle.std.specs.Prelude.{[], ◌∷◌, None}
use Rattle.frp_base.specs.declared.ty.Ty.{Ty}
use Rattle.frp_base.specs.declared.ty.Ty.TheVariants as t
use Rattle.frp_expr.specs.declared.expr.Expr.TheVariants as ex
use Rattle.frp_graph.specs.declared.prog.Prog.{Prog}
use Rattle.frp_graph.specs.declared.prog.Line3.TheVariants as line
use Rattle.frp_graph.specs.declared.prog.LineShape.TheVariants as l

abbrev pub lists : Ty
lists = t.List (t.List t.Int)

abbrev pub prog : Prog
prog = record {
  codes = [];
  funs = record { kept = []; arg = lists; result = lists; e = ex.Var 0 } ∷ [];
  templates = [];
  joins = [];
  body = record { param = None; kept = []; give = None; lines = line.Node (t.Cell (t.Fun lists lists)) (l.Constant (ex.Close 0 [])) ∷ [] };
}
