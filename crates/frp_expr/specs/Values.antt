-- Which values are of a type, where these nodes and functions are there.
use Rattle.std.specs.Prelude.{nat_le, Bool, true, false, ◌&&◌, List, [], ◌∷◌, length, Option, Some, None, slice_get}
use Rattle.frp_base.specs.declared.name.Name.{Name}
use Rattle.frp_base.specs.declared.ty.Ty.{Ty, out-Ty}
use Rattle.frp_base.specs.declared.ty.Ty.TheOpen.{Ty-F}
use Rattle.frp_base.specs.declared.ty.Ty.TheOpen as t
use Rattle.frp_base.specs.declared.val.Val.{Val}
use Rattle.frp_base.specs.declared.val.Val.TheOpen.{Val-F}
use Rattle.frp_base.specs.declared.val.Val.TheOpen as v
use Rattle.frp_base.specs.declared.val.Val.TheFolds.{fold-Val}
use Rattle.frp_base.specs.Ty.{ty_eq}
use Rattle.frp_expr.specs.Operators.{most}
use Rattle.frp_expr.specs.Types.{fits, is_text}
use Rattle.frp_expr.specs.Typing.{Sig}

-- whether there is a node, and it has this type
abbrev pub is_node_of : Ty → Option Ty → Bool
is_node_of x None = false
is_node_of x (Some y) = ty_eq y x

-- tests of the parts of a value: each of the type, and one by one of the types
abbrev pub all_of : List (Ty → Bool) → Ty → Bool
all_of [] x = true
all_of (p ∷ ps) x = p x && all_of ps x

abbrev pub each_of : List (Ty → Bool) → List Ty → Bool
each_of [] [] = true
each_of (p ∷ ps) (x ∷ xs) = p x && each_of ps xs
each_of _ _ = false

-- kept values of a function of these types
abbrev pub is_closed_of : List (Ty → Bool) → Ty → Ty → Option Sig → Bool
is_closed_of ps a b None = false
is_closed_of ps a b (Some s) = each_of ps s.kept && ty_eq s.arg a && ty_eq s.result b

-- `node_type` gives the type of each node that there is, and `sigs` are the declared functions
module _ (node_type : Name → Option Ty) (sigs : List Sig) where
  -- A value whose parts are tested so, and a type: numbers, truths and texts of printable bytes are of their types, an
  -- empty list is of every list type, a reference names a node of the type, a function value is of its function's type, and
  -- the absent value is of every option type.
  abbrev pub is_of_step : Val-F (Ty → Bool) → Ty → Ty-F Ty → Bool
  is_of_step (v.Int z) x t.Int = fits z
  is_of_step (v.Bool b) x t.Bool = true
  is_of_step (v.Text s) x t.Text = is_text s
  is_of_step (v.Pair p q) x (t.Pair a b) = p a && q b
  is_of_step (v.List ps) x (t.List a) = all_of ps a && nat_le (length ps) most
  is_of_step (v.Stream n) x (t.Stream a) = is_node_of x (node_type n)
  is_of_step (v.Cell n) x (t.Cell a) = is_node_of x (node_type n)
  is_of_step (v.Fun f ps) x (t.Fun a b) = is_closed_of ps a b (slice_get sigs f)
  is_of_step v.Absent x (t.Option a) = true
  is_of_step (v.Present p) x (t.Option a) = p a
  is_of_step _ x _ = false

  -- whether a value is of a type
  abbrev pub is_of : Val → Ty → Bool
  is_of = fold-Val (Ty → Bool) (λ v x. is_of_step v x (out-Ty x))

  -- whether values are of types, one by one
  abbrev pub are_of : List Val → List Ty → Bool
  are_of [] [] = true
  are_of (v ∷ vs) (x ∷ xs) = is_of v x && are_of vs xs
  are_of _ _ = false
