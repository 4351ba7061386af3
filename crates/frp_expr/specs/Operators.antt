-- What the operators on numbers, lists and texts give.
use Rattle.std.specs.Prelude.{ℕ, ℤ, pos, negsuc, neg_ℤ, nat_lt, int_div, int_rem, List, [], ◌++◌, take, slice_index_or, if◌then◌else◌}
use Rattle.std.specs.Int.{int_wrap, w64}
use Rattle.std.specs.Ordering.{int_eq}
use Rattle.std.specs.List.{list_all}
use Rattle.frp_base.specs.declared.val.Val.{Val}

-- the whole number of 64 bits that a number wraps to
abbrev pub wrapped : ℤ → ℤ
wrapped z = int_wrap w64 z

-- the quotient cut toward zero; by 0 it is 0, and the least number by -1 is itself
abbrev pub quotient : ℤ → ℤ → ℤ
quotient a b = if int_eq b (pos 0) then pos 0 else (if int_eq b (negsuc 0) then wrapped (neg_ℤ a) else int_div a b)

-- the remainder of that, with the sign of a; by 0 it is 0
abbrev pub remainder : ℤ → ℤ → ℤ
remainder a b = if int_eq b (pos 0) then pos 0 else int_rem a b

-- the most items of a list, and the most bytes of a text
abbrev pub most : ℕ
most = 1024

-- the first items of one list followed by another, up to the most
abbrev pub appended : List Val → List Val → List Val
appended xs ys = take most (xs ++ ys)

-- the first bytes of a text, up to the most; a text with bytes above 127 is none of the language's, and gives none
abbrev pub cut : List ℕ → List ℕ
cut t = if list_all (λ b. nat_lt b 128) t then take most t else []

-- item i from 0, or the value that stands for none
abbrev pub item_at : List Val → ℤ → Val → Val
item_at xs (pos i) d = slice_index_or xs i d
item_at xs (negsuc i) d = d
