-- Operators over other parts.
use Rattle.std.specs.Prelude.{Bool, true, false}
use Rattle.frp_expr.specs.declared.expr.Expr.{Expr, out-Expr}
use Rattle.frp_expr.specs.declared.expr.Expr.TheOpen.{Expr-F}
use Rattle.frp_expr.specs.declared.expr.Expr.TheOpen as o
use Rattle.frp_expr.specs.declared.expr.Expr.TheVariants as x

-- an operator over this part; that of each other expression is of no matter
abbrev pub over_one_step : Expr-F Expr → Expr → Expr
over_one_step (o.Neg _) a = x.Neg a
over_one_step (o.Not _) a = x.Not a
over_one_step (o.First _) a = x.First a
over_one_step (o.Second _) a = x.Second a
over_one_step (o.Len _) a = x.Len a
over_one_step _ a = x.Show a

abbrev pub over_one : Expr → Expr → Expr
over_one e a = over_one_step (out-Expr e) a

abbrev pub over_two_step : Expr-F Expr → Expr → Expr → Expr
over_two_step (o.Add _ _) a b = x.Add a b
over_two_step (o.Sub _ _) a b = x.Sub a b
over_two_step (o.Mul _ _) a b = x.Mul a b
over_two_step (o.Div _ _) a b = x.Div a b
over_two_step (o.Rem _ _) a b = x.Rem a b
over_two_step (o.Lt _ _) a b = x.Lt a b
over_two_step (o.Eq _ _) a b = x.Eq a b
over_two_step (o.And _ _) a b = x.And a b
over_two_step (o.Or _ _) a b = x.Or a b
over_two_step (o.Pair _ _) a b = x.Pair a b
over_two_step (o.Append _ _) a b = x.Append a b
over_two_step _ a b = x.Cat a b

abbrev pub over_two : Expr → Expr → Expr → Expr
over_two e a b = over_two_step (out-Expr e) a b

-- whether an expression is a `let`, an `if` or an item of a list
abbrev pub is_branching_step : Expr-F Expr → Bool
is_branching_step (o.Let _ _) = true
is_branching_step (o.If _ _ _) = true
is_branching_step (o.At _ _ _) = true
is_branching_step _ = false

abbrev pub is_branching : Expr → Bool
is_branching e = is_branching_step (out-Expr e)

abbrev pub over_three_step : Expr-F Expr → Expr → Expr → Expr → Expr
over_three_step (o.If _ _ _) a b c = x.If a b c
over_three_step _ a b c = x.At a b c

abbrev pub over_three : Expr → Expr → Expr → Expr → Expr
over_three e a b c = over_three_step (out-Expr e) a b c
