-- Kinds of types, and what is looked at in them.
use Rattle.std.specs.Prelude.{ℕ, ◌^◌, ℤ, pos, negsuc, nat_le, nat_lt, Bool, true, false, ◌&&◌, ◌||◌, List, length, Option, Some, None, if◌then◌else◌}
use Rattle.std.specs.List.{list_all}
use Rattle.frp_base.specs.declared.ty.Ty.{Ty, out-Ty}
use Rattle.frp_base.specs.declared.ty.Ty.TheOpen.{Ty-F}
use Rattle.frp_base.specs.declared.ty.Ty.TheOpen as o
use Rattle.frp_base.specs.declared.ty.Ty.TheFolds.{fold-Ty}
use Rattle.frp_expr.specs.Operators.{most}

-- Whether a type is one of the language, whose lists have items of plain types; and whether it is plain: Int, Bool, Text, and
-- pairs and options of plain types.
abbrev pub kind_step : Ty-F (Bool × Bool) → Bool × Bool
kind_step o.Int = (true, true)
kind_step o.Bool = (true, true)
kind_step o.Text = (true, true)
kind_step (o.Pair a b) = (a.0 && b.0, a.1 && b.1)
kind_step (o.List a) = (a.1, false)
kind_step (o.Stream a) = (a.0, false)
kind_step (o.Cell a) = (a.0, false)
kind_step (o.Fun a b) = (a.0 && b.0, false)
kind_step (o.Option a) = (a.0, a.1)

abbrev pub type_kind : Ty → Bool × Bool
type_kind = fold-Ty (Bool × Bool) kind_step

abbrev pub is_type : Ty → Bool
is_type x = (type_kind x).0

abbrev pub is_plain : Ty → Bool
is_plain x = (type_kind x).1

abbrev pub is_list_in : Ty-F Ty → Bool
is_list_in (o.List a) = true
is_list_in _ = false

abbrev pub is_list : Ty → Bool
is_list x = is_list_in (out-Ty x)

-- comparable are the plain types and the lists
abbrev pub is_comparable : Ty → Bool
is_comparable x = is_plain x || is_list x

-- the parts of a pair, and the items of a list
abbrev pub first_type_in : Ty-F Ty → Option Ty
first_type_in (o.Pair a b) = Some a
first_type_in _ = None

abbrev pub second_type_in : Ty-F Ty → Option Ty
second_type_in (o.Pair a b) = Some b
second_type_in _ = None

abbrev pub item_type_in : Ty-F Ty → Option Ty
item_type_in (o.List a) = Some a
item_type_in _ = None

abbrev pub first_type : Ty → Option Ty
first_type x = first_type_in (out-Ty x)

abbrev pub second_type : Ty → Option Ty
second_type x = second_type_in (out-Ty x)

abbrev pub item_type : Ty → Option Ty
item_type x = item_type_in (out-Ty x)

-- what has a length: lists and texts
abbrev pub has_length_in : Ty-F Ty → Bool
has_length_in (o.List a) = true
has_length_in o.Text = true
has_length_in _ = false

abbrev pub has_length : Ty → Bool
has_length x = has_length_in (out-Ty x)

-- the type, where the test holds
abbrev pub given : Bool → Ty → Option Ty
given b x = if b then Some x else None

-- a whole number of 64 bits: from -2^63 to 2^63 - 1
abbrev pub fits : ℤ → Bool
fits (pos n) = nat_lt n (2 ^ 63)
fits (negsuc n) = nat_lt n (2 ^ 63)

-- printable are the bytes from the space to the tilde; a text has at most 1,024 of them
abbrev pub is_printable : ℕ → Bool
is_printable b = nat_le 32 b && nat_le b 126

abbrev pub is_text : List ℕ → Bool
is_text x = list_all is_printable x && nat_le (length x) most
