-- Written operators over other parts.
use Rattle.frp_expr.specs.declared.raw.Raw.{Raw}
use Rattle.frp_expr.specs.declared.raw.RawForm.{RawForm, RawForm-F}
use Rattle.frp_expr.specs.declared.raw.RawForm.TheOpen as o
use Rattle.frp_expr.specs.declared.raw.RawForm.TheVariants as f
use Rattle.frp_expr.specs.Forms.{form_of}

-- a written operator over this part; that of each other form is of no matter
abbrev pub with_one_step : RawForm-F RawForm Raw → Raw → RawForm
with_one_step (o.Neg _) a = f.Neg a
with_one_step (o.Not _) a = f.Not a
with_one_step (o.First _) a = f.First a
with_one_step (o.Second _) a = f.Second a
with_one_step (o.Len _) a = f.Len a
with_one_step _ a = f.Show a

abbrev pub with_one : Raw → Raw → RawForm
with_one r a = with_one_step (form_of r) a

abbrev pub with_two_step : RawForm-F RawForm Raw → Raw → Raw → RawForm
with_two_step (o.Add _ _) a b = f.Add a b
with_two_step (o.Sub _ _) a b = f.Sub a b
with_two_step (o.Mul _ _) a b = f.Mul a b
with_two_step (o.Div _ _) a b = f.Div a b
with_two_step (o.Rem _ _) a b = f.Rem a b
with_two_step (o.Lt _ _) a b = f.Lt a b
with_two_step (o.And _ _) a b = f.And a b
with_two_step (o.Or _ _) a b = f.Or a b
with_two_step (o.Cat _ _) a b = f.Cat a b
with_two_step (o.Eq _ _) a b = f.Eq a b
with_two_step (o.Pair _ _) a b = f.Pair a b
with_two_step _ a b = f.Append a b

abbrev pub with_two : Raw → Raw → Raw → RawForm
with_two r a b = with_two_step (form_of r) a b

abbrev pub with_three_step : RawForm-F RawForm Raw → Raw → Raw → Raw → RawForm
with_three_step (o.If _ _ _) a b c = f.If a b c
with_three_step _ a b c = f.At a b c

abbrev pub with_three : Raw → Raw → Raw → Raw → RawForm
with_three r a b c = with_three_step (form_of r) a b c
