-- What a value holds, looked at as a value of one kind. A value of another kind counts as 0, false, no text or no items;
-- an expression that has a type never meets one.
use Rattle.std.specs.Prelude.{ℕ, ℤ, pos, Bool, false, List, [], length}
use Rattle.frp_base.specs.declared.val.Val.{Val, out-Val}
use Rattle.frp_base.specs.declared.val.Val.TheOpen.{Val-F}
use Rattle.frp_base.specs.declared.val.Val.TheOpen as o
use Rattle.frp_base.specs.declared.val.Val.TheVariants as v

abbrev pub int_in : Val-F Val → ℤ
int_in (o.Int z) = z
int_in _ = pos 0

abbrev pub bool_in : Val-F Val → Bool
bool_in (o.Bool b) = b
bool_in _ = false

abbrev pub text_in : Val-F Val → List ℕ
text_in (o.Text t) = t
text_in _ = []

abbrev pub items_in : Val-F Val → List Val
items_in (o.List xs) = xs
items_in _ = []

abbrev pub zero_val : Val
zero_val = v.Int (pos 0)

abbrev pub first_in : Val-F Val → Val
first_in (o.Pair x y) = x
first_in _ = zero_val

abbrev pub second_in : Val-F Val → Val
second_in (o.Pair x y) = y
second_in _ = zero_val

-- the number of items of a list, or of bytes of a text
abbrev pub len_in : Val-F Val → ℕ
len_in (o.List xs) = length xs
len_in (o.Text t) = length t
len_in _ = 0

abbrev pub int_of : Val → ℤ
int_of x = int_in (out-Val x)

abbrev pub bool_of : Val → Bool
bool_of x = bool_in (out-Val x)

abbrev pub text_of : Val → List ℕ
text_of x = text_in (out-Val x)

abbrev pub items_of : Val → List Val
items_of x = items_in (out-Val x)

abbrev pub first_of : Val → Val
first_of x = first_in (out-Val x)

abbrev pub second_of : Val → Val
second_of x = second_in (out-Val x)

abbrev pub len_of : Val → ℕ
len_of x = len_in (out-Val x)
