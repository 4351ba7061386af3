-- Types of values: when two are one, and their texts.
use Rattle.std.specs.Prelude.{ℕ, Bool, true, false, ◌&&◌, List, ◌++◌, codes}
use Rattle.frp_base.specs.declared.ty.Ty.{Ty, out-Ty}
use Rattle.frp_base.specs.declared.ty.Ty.TheOpen.{Ty-F}
use Rattle.frp_base.specs.declared.ty.Ty.TheOpen as t
use Rattle.frp_base.specs.declared.ty.Ty.TheFolds.{fold-Ty}

-- whether two types are made alike, where each part of the first is a test of the part of the second
abbrev pub ty_layer_eq : Ty-F (Ty → Bool) → Ty-F Ty → Bool
ty_layer_eq t.Int t.Int = true
ty_layer_eq t.Bool t.Bool = true
ty_layer_eq t.Text t.Text = true
ty_layer_eq (t.Pair f g) (t.Pair x y) = f x && g y
ty_layer_eq (t.List f) (t.List x) = f x
ty_layer_eq (t.Stream f) (t.Stream x) = f x
ty_layer_eq (t.Cell f) (t.Cell x) = f x
ty_layer_eq (t.Fun f g) (t.Fun x y) = f x && g y
ty_layer_eq (t.Option f) (t.Option x) = f x
ty_layer_eq _ _ = false

-- whether two types are one
abbrev pub ty_eq : Ty → Ty → Bool
ty_eq = fold-Ty (Ty → Bool) (λ x u. ty_layer_eq x (out-Ty u))

-- the text of a type whose parts have these texts
abbrev pub ty_text_of : Ty-F (List ℕ) → List ℕ
ty_text_of t.Int = codes "Int"
ty_text_of t.Bool = codes "Bool"
ty_text_of t.Text = codes "Text"
ty_text_of (t.Pair x y) = codes "(Pair " ++ x ++ codes " " ++ y ++ codes ")"
ty_text_of (t.List x) = codes "(List " ++ x ++ codes ")"
ty_text_of (t.Stream x) = codes "(Stream " ++ x ++ codes ")"
ty_text_of (t.Cell x) = codes "(Cell " ++ x ++ codes ")"
ty_text_of (t.Fun x y) = codes "(Fun " ++ x ++ codes " " ++ y ++ codes ")"
ty_text_of (t.Option x) = codes "(Option " ++ x ++ codes ")"

abbrev pub ty_text : Ty → List ℕ
ty_text = fold-Ty (List ℕ) ty_text_of
