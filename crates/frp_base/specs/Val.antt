-- Values: when two are one, and their texts.
use Rattle.std.specs.Prelude.{ℕ, Bool, true, false, List, [], ◌∷◌, ◌++◌, ◌==◌, ◌&&◌, ◌||◌, codes, if◌then◌else◌}
use Rattle.std.specs.Bool.{beq}
use Rattle.std.specs.Fmt.{decimal, signed_decimal}
use Rattle.std.specs.Ordering.{int_eq}
use lib.Pointwise.{pointwise}
use Rattle.frp_base.specs.Name.{name_eq, name_text}
use Rattle.frp_base.specs.declared.val.Val.{Val, out-Val}
use Rattle.frp_base.specs.declared.val.Val.TheOpen.{Val-F}
use Rattle.frp_base.specs.declared.val.Val.TheOpen as v
use Rattle.frp_base.specs.declared.val.Val.TheFolds.{fold-Val}

-- whether there are as many values as tests, and each test holds of the value at its place
abbrev pub items_eq : List (Val → Bool) → List Val → Bool
items_eq [] [] = true
items_eq (f ∷ fs) (x ∷ xs) = f x && items_eq fs xs
items_eq _ _ = false

-- whether two values are made alike, where each part of the first is a test of the part of the second
abbrev pub val_layer_eq : Val-F (Val → Bool) → Val-F Val → Bool
val_layer_eq (v.Int a) (v.Int b) = int_eq a b
val_layer_eq (v.Bool a) (v.Bool b) = beq a b
val_layer_eq (v.Text a) (v.Text b) = pointwise ◌==◌ a b
val_layer_eq (v.Pair f g) (v.Pair x y) = f x && g y
val_layer_eq (v.List fs) (v.List xs) = items_eq fs xs
val_layer_eq (v.Stream a) (v.Stream b) = name_eq a b
val_layer_eq (v.Cell a) (v.Cell b) = name_eq a b
val_layer_eq (v.Fun f fs) (v.Fun g xs) = f == g && items_eq fs xs
val_layer_eq v.Absent v.Absent = true
val_layer_eq (v.Present f) (v.Present x) = f x
val_layer_eq _ _ = false

-- whether two values are one
abbrev pub val_eq : Val → Val → Bool
val_eq = fold-Val (Val → Bool) (λ x w. val_layer_eq x (out-Val w))

-- each text with a space before it
abbrev pub spaced : List (List ℕ) → List ℕ
spaced [] = []
spaced (t ∷ ts) = 32 ∷ t ++ spaced ts

-- the backslash that stands before a quote and before a backslash, and before no other byte
abbrev pub mark : ℕ → List ℕ
mark b = if b == 34 || b == 92 then 92 ∷ [] else []

abbrev pub escaped : List ℕ → List ℕ
escaped [] = []
escaped (b ∷ bs) = mark b ++ b ∷ escaped bs

-- the text of a value whose parts have these texts
abbrev pub val_text_of : Val-F (List ℕ) → List ℕ
val_text_of (v.Int z) = signed_decimal z
val_text_of (v.Bool b) = if b then codes "true" else codes "false"
val_text_of (v.Text t) = 34 ∷ escaped t ++ 34 ∷ []
val_text_of (v.Pair x y) = codes "(pair " ++ x ++ codes " " ++ y ++ codes ")"
val_text_of (v.List ts) = codes "(list" ++ spaced ts ++ codes ")"
val_text_of (v.Stream n) = codes "(stream " ++ name_text n ++ codes ")"
val_text_of (v.Cell n) = codes "(cell " ++ name_text n ++ codes ")"
val_text_of (v.Fun f ts) = codes "(fun " ++ decimal f ++ spaced ts ++ codes ")"
val_text_of v.Absent = codes "none"
val_text_of (v.Present x) = codes "(some " ++ x ++ codes ")"

abbrev pub val_text : Val → List ℕ
val_text = fold-Val (List ℕ) val_text_of
