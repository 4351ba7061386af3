-- The value of an expression over a list of values.
use Rattle.std.specs.Prelude.{Bool, true, false, pos, ◌+ℤ◌, ◌-ℤ◌, ◌*ℤ◌, neg_ℤ, int_lt, not, ◌&&◌, ◌||◌, if◌then◌else◌, List, [], ◌∷◌, ◌++◌, slice_index_or}
use Rattle.std.specs.Fmt.{signed_decimal}
use Rattle.frp_base.specs.declared.val.Val.{Val}
use Rattle.frp_base.specs.declared.val.Val.TheVariants as v
use Rattle.frp_base.specs.Val.{val_eq}
use Rattle.frp_expr.specs.Parts.{zero_val, int_of, bool_of, text_of, items_of, first_of, second_of, len_of}
use Rattle.frp_expr.specs.Operators.{wrapped, quotient, remainder, appended, cut, item_at}
use Rattle.frp_expr.specs.declared.expr.Expr.{Expr, out-Expr}
use Rattle.frp_expr.specs.declared.expr.Expr.TheOpen.{Expr-F}
use Rattle.frp_expr.specs.declared.expr.Expr.TheOpen as e
use Rattle.frp_expr.specs.declared.expr.Expr.TheFolds.{fold-Expr}

-- an expression means a value for each list of values of its variables
abbrev pub Meaning : Type 0
Meaning = List Val → Val

-- the values of several, in order
abbrev pub each_value : List Meaning → List Val → List Val
each_value [] vs = []
each_value (f ∷ fs) vs = f vs ∷ each_value fs vs

abbrev pub eval_step : Expr-F Meaning → Meaning
eval_step (e.Int n) vs = v.Int n
eval_step (e.Bool b) vs = v.Bool b
eval_step (e.Text t) vs = v.Text t
eval_step (e.Var i) vs = slice_index_or vs i zero_val
eval_step (e.Neg a) vs = v.Int (wrapped (neg_ℤ (int_of (a vs))))
eval_step (e.Not a) vs = v.Bool (not (bool_of (a vs)))
eval_step (e.First a) vs = first_of (a vs)
eval_step (e.Second a) vs = second_of (a vs)
eval_step (e.Len a) vs = v.Int (pos (len_of (a vs)))
eval_step (e.Show a) vs = v.Text (signed_decimal (int_of (a vs)))
eval_step (e.Let a b) vs = b (vs ++ a vs ∷ [])
eval_step (e.Add a b) vs = v.Int (wrapped (int_of (a vs) +ℤ int_of (b vs)))
eval_step (e.Sub a b) vs = v.Int (wrapped (int_of (a vs) -ℤ int_of (b vs)))
eval_step (e.Mul a b) vs = v.Int (wrapped (int_of (a vs) *ℤ int_of (b vs)))
eval_step (e.Div a b) vs = v.Int (quotient (int_of (a vs)) (int_of (b vs)))
eval_step (e.Rem a b) vs = v.Int (remainder (int_of (a vs)) (int_of (b vs)))
eval_step (e.Lt a b) vs = v.Bool (int_lt (int_of (a vs)) (int_of (b vs)))
eval_step (e.Eq a b) vs = v.Bool (val_eq (a vs) (b vs))
eval_step (e.And a b) vs = v.Bool (bool_of (a vs) && bool_of (b vs))
eval_step (e.Or a b) vs = v.Bool (bool_of (a vs) || bool_of (b vs))
eval_step (e.Pair a b) vs = v.Pair (a vs) (b vs)
eval_step (e.Append a b) vs = v.List (appended (items_of (a vs)) (items_of (b vs)))
eval_step (e.Cat a b) vs = v.Text (cut (text_of (a vs) ++ text_of (b vs)))
eval_step (e.If c a b) vs = if bool_of (c vs) then a vs else b vs
eval_step (e.At a i d) vs = item_at (items_of (a vs)) (int_of (i vs)) (d vs)
eval_step (e.List fs) vs = v.List (each_value fs vs)
eval_step (e.Nil t) vs = v.List []
eval_step (e.Close f fs) vs = v.Fun f (each_value fs vs)

abbrev pub eval : Expr → List Val → Val
eval = fold-Expr Meaning eval_step

-- the value of an operator on one value; that of each other expression is of no matter
abbrev pub one_step : Expr-F Expr → Val → Val
one_step (e.Neg _) a = v.Int (wrapped (neg_ℤ (int_of a)))
one_step (e.Not _) a = v.Bool (not (bool_of a))
one_step (e.First _) a = first_of a
one_step (e.Second _) a = second_of a
one_step (e.Len _) a = v.Int (pos (len_of a))
one_step _ a = v.Text (signed_decimal (int_of a))

abbrev pub of_one : Expr → Val → Val
of_one x a = one_step (out-Expr x) a

-- the value of an operator that looks at two values; that of each other expression is of no matter
abbrev pub of_two_seen_step : Expr-F Expr → Val → Val → Val
of_two_seen_step (e.Add _ _) a b = v.Int (wrapped (int_of a +ℤ int_of b))
of_two_seen_step (e.Sub _ _) a b = v.Int (wrapped (int_of a -ℤ int_of b))
of_two_seen_step (e.Mul _ _) a b = v.Int (wrapped (int_of a *ℤ int_of b))
of_two_seen_step (e.Div _ _) a b = v.Int (quotient (int_of a) (int_of b))
of_two_seen_step (e.Rem _ _) a b = v.Int (remainder (int_of a) (int_of b))
of_two_seen_step (e.Lt _ _) a b = v.Bool (int_lt (int_of a) (int_of b))
of_two_seen_step (e.Eq _ _) a b = v.Bool (val_eq a b)
of_two_seen_step (e.And _ _) a b = v.Bool (bool_of a && bool_of b)
of_two_seen_step _ a b = v.Bool (bool_of a || bool_of b)

abbrev pub of_two_seen : Expr → Val → Val → Val
of_two_seen x a b = of_two_seen_step (out-Expr x) a b

-- the value of an operator on two values
abbrev pub two_step : Expr-F Expr → Expr → Val → Val → Val
two_step (e.Pair _ _) x a b = v.Pair a b
two_step (e.Append _ _) x a b = v.List (appended (items_of a) (items_of b))
two_step (e.Cat _ _) x a b = v.Text (cut (text_of a ++ text_of b))
two_step _ x a b = of_two_seen x a b

abbrev pub of_two : Expr → Val → Val → Val
of_two x a b = two_step (out-Expr x) x a b

-- whether an expression is an operator on one value
abbrev pub is_one_step : Expr-F Expr → Bool
is_one_step (e.Neg _) = true
is_one_step (e.Not _) = true
is_one_step (e.First _) = true
is_one_step (e.Second _) = true
is_one_step (e.Len _) = true
is_one_step (e.Show _) = true
is_one_step _ = false

abbrev pub has_one : Expr → Bool
has_one x = is_one_step (out-Expr x)

-- whether an expression is an operator on two values
abbrev pub is_two_step : Expr-F Expr → Bool
is_two_step (e.Add _ _) = true
is_two_step (e.Sub _ _) = true
is_two_step (e.Mul _ _) = true
is_two_step (e.Div _ _) = true
is_two_step (e.Rem _ _) = true
is_two_step (e.Lt _ _) = true
is_two_step (e.Eq _ _) = true
is_two_step (e.And _ _) = true
is_two_step (e.Or _ _) = true
is_two_step (e.Pair _ _) = true
is_two_step (e.Append _ _) = true
is_two_step (e.Cat _ _) = true
is_two_step _ = false

abbrev pub has_two : Expr → Bool
has_two x = is_two_step (out-Expr x)
