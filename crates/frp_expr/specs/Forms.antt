-- Groups of forms of expressions, by their parts.
use Rattle.std.specs.Prelude.{Bool, true, false}
use Rattle.frp_expr.specs.declared.raw.Raw.{Raw, out-Raw}
use Rattle.frp_expr.specs.declared.raw.RawForm.{RawForm, RawForm-F, out-RawForm}
use Rattle.frp_expr.specs.declared.raw.RawForm.TheOpen as o

abbrev pub form_of : Raw → RawForm-F RawForm Raw
form_of r = out-RawForm (out-Raw r).form

-- one part
abbrev pub is_unary_form : RawForm-F RawForm Raw → Bool
is_unary_form (o.Neg a) = true
is_unary_form (o.Not a) = true
is_unary_form (o.First a) = true
is_unary_form (o.Second a) = true
is_unary_form (o.Len a) = true
is_unary_form (o.Show a) = true
is_unary_form _ = false

abbrev pub is_unary : Raw → Bool
is_unary r = is_unary_form (form_of r)

-- two parts of one given type
abbrev pub is_binary_form : RawForm-F RawForm Raw → Bool
is_binary_form (o.Add a b) = true
is_binary_form (o.Sub a b) = true
is_binary_form (o.Mul a b) = true
is_binary_form (o.Div a b) = true
is_binary_form (o.Rem a b) = true
is_binary_form (o.Lt a b) = true
is_binary_form (o.And a b) = true
is_binary_form (o.Or a b) = true
is_binary_form (o.Cat a b) = true
is_binary_form _ = false

abbrev pub is_binary : Raw → Bool
is_binary r = is_binary_form (form_of r)

-- parts whose types follow from one another
abbrev pub is_agreeing_form : RawForm-F RawForm Raw → Bool
is_agreeing_form (o.Eq a b) = true
is_agreeing_form (o.Pair a b) = true
is_agreeing_form (o.Append a b) = true
is_agreeing_form (o.If a b c) = true
is_agreeing_form (o.At a b c) = true
is_agreeing_form _ = false

abbrev pub is_agreeing : Raw → Bool
is_agreeing r = is_agreeing_form (form_of r)
