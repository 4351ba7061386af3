-- What written operators stand for, by their parts.
use Rattle.frp_expr.specs.declared.expr.Expr.{Expr}
use Rattle.frp_expr.specs.declared.expr.Expr.TheVariants as x
use Rattle.frp_expr.specs.declared.raw.Raw.{Raw}
use Rattle.frp_expr.specs.declared.raw.RawForm.{RawForm, RawForm-F}
use Rattle.frp_expr.specs.declared.raw.RawForm.TheOpen as o
use Rattle.frp_expr.specs.Forms.{form_of}

-- the expression of a written operator on these parts; that of each other form is of no matter
abbrev pub of_one_step : RawForm-F RawForm Raw → Expr → Expr
of_one_step (o.Neg _) a = x.Neg a
of_one_step (o.Not _) a = x.Not a
of_one_step (o.First _) a = x.First a
of_one_step (o.Second _) a = x.Second a
of_one_step (o.Len _) a = x.Len a
of_one_step _ a = x.Show a

abbrev pub standing_of_one : Raw → Expr → Expr
standing_of_one r a = of_one_step (form_of r) a

abbrev pub of_two_step : RawForm-F RawForm Raw → Expr → Expr → Expr
of_two_step (o.Add _ _) a b = x.Add a b
of_two_step (o.Sub _ _) a b = x.Sub a b
of_two_step (o.Mul _ _) a b = x.Mul a b
of_two_step (o.Div _ _) a b = x.Div a b
of_two_step (o.Rem _ _) a b = x.Rem a b
of_two_step (o.Lt _ _) a b = x.Lt a b
of_two_step (o.And _ _) a b = x.And a b
of_two_step (o.Or _ _) a b = x.Or a b
of_two_step (o.Cat _ _) a b = x.Cat a b
of_two_step (o.Eq _ _) a b = x.Eq a b
of_two_step (o.Pair _ _) a b = x.Pair a b
of_two_step _ a b = x.Append a b

abbrev pub standing_of_two : Raw → Expr → Expr → Expr
standing_of_two r a b = of_two_step (form_of r) a b

abbrev pub of_three_step : RawForm-F RawForm Raw → Expr → Expr → Expr → Expr
of_three_step (o.If _ _ _) a b c = x.If a b c
of_three_step _ a b c = x.At a b c

abbrev pub of_three : Raw → Expr → Expr → Expr → Expr
of_three r a b c = of_three_step (form_of r) a b c
