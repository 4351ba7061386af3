-- The word that each head is written as.
use Rattle.std.specs.Prelude.{ℕ, Bool, true, false, List, codes}
use Rattle.frp_form.specs.declared.ty_word.AtomTy.{AtomTy}
use Rattle.frp_form.specs.declared.ty_word.AtomTy.TheVariants as at
use Rattle.frp_form.specs.declared.ty_word.UnaryTy.{UnaryTy}
use Rattle.frp_form.specs.declared.ty_word.UnaryTy.TheVariants as ut
use Rattle.frp_form.specs.declared.ty_word.BinaryTy.{BinaryTy}
use Rattle.frp_form.specs.declared.ty_word.BinaryTy.TheVariants as bt
use Rattle.frp_form.specs.declared.heads.Unary.{Unary}
use Rattle.frp_form.specs.declared.heads.Unary.TheVariants as u
use Rattle.frp_form.specs.declared.heads.Binary.{Binary}
use Rattle.frp_form.specs.declared.heads.Binary.TheVariants as b
use Rattle.frp_form.specs.declared.heads.Ternary.{Ternary}
use Rattle.frp_form.specs.declared.heads.Ternary.TheVariants as t
use Rattle.frp_form.specs.declared.shape_heads.TyShape.{TyShape}
use Rattle.frp_form.specs.declared.shape_heads.TyShape.TheVariants as ts
use Rattle.frp_form.specs.declared.shape_heads.UnaryShape.{UnaryShape}
use Rattle.frp_form.specs.declared.shape_heads.UnaryShape.TheVariants as us
use Rattle.frp_form.specs.declared.shape_heads.BinaryShape.{BinaryShape}
use Rattle.frp_form.specs.declared.shape_heads.BinaryShape.TheVariants as bs
use Rattle.frp_form.specs.declared.shape_heads.MapShape.{MapShape}
use Rattle.frp_form.specs.declared.shape_heads.MapShape.TheVariants as ms
use Rattle.frp_form.specs.declared.shape_heads.JoinShape.{JoinShape}
use Rattle.frp_form.specs.declared.shape_heads.JoinShape.TheVariants as js
use Rattle.frp_form.specs.declared.shape_heads.FoldShape.{FoldShape}
use Rattle.frp_form.specs.declared.shape_heads.FoldShape.TheVariants as fs

-- types

abbrev pub atom_word : AtomTy → List ℕ
atom_word at.Int = codes "Int"
atom_word at.Bool = codes "Bool"
atom_word at.Text = codes "Text"

abbrev pub unary_ty_word : UnaryTy → List ℕ
unary_ty_word ut.List = codes "List"
unary_ty_word ut.Stream = codes "Stream"
unary_ty_word ut.Cell = codes "Cell"

abbrev pub binary_ty_word : BinaryTy → List ℕ
binary_ty_word bt.Pair = codes "Pair"
binary_ty_word bt.Fun = codes "Fun"

-- expressions

abbrev pub bool_word : Bool → List ℕ
bool_word true = codes "true"
bool_word false = codes "false"

abbrev pub unary_word : Unary → List ℕ
unary_word u.Neg = codes "neg"
unary_word u.Not = codes "not"
unary_word u.First = codes "first"
unary_word u.Second = codes "second"
unary_word u.Len = codes "len"
unary_word u.Show = codes "show"

abbrev pub binary_word : Binary → List ℕ
binary_word b.Add = codes "add"
binary_word b.Sub = codes "sub"
binary_word b.Mul = codes "mul"
binary_word b.Div = codes "div"
binary_word b.Rem = codes "rem"
binary_word b.Lt = codes "lt"
binary_word b.Eq = codes "eq"
binary_word b.And = codes "and"
binary_word b.Or = codes "or"
binary_word b.Pair = codes "pair"
binary_word b.Append = codes "append"
binary_word b.Cat = codes "cat"

abbrev pub ternary_word : Ternary → List ℕ
ternary_word t.If = codes "if"
ternary_word t.At = codes "at"

-- shapes

abbrev pub typed_word : TyShape → List ℕ
typed_word ts.Never = codes "never"
typed_word ts.Loops = codes "loops"
typed_word ts.Loopc = codes "loopc"

abbrev pub unary_shape_word : UnaryShape → List ℕ
unary_shape_word us.Constant = codes "constant"
unary_shape_word us.Split = codes "split"
unary_shape_word us.Updates = codes "updates"
unary_shape_word us.Value = codes "value"
unary_shape_word us.Switchs = codes "switchs"
unary_shape_word us.Switchc = codes "switchc"
unary_shape_word us.Once = codes "once"
unary_shape_word us.Defer = codes "defer"

abbrev pub binary_shape_word : BinaryShape → List ℕ
binary_shape_word bs.Hold = codes "hold"
binary_shape_word bs.Apply = codes "apply"
binary_shape_word bs.Orelse = codes "orelse"
binary_shape_word bs.Gate = codes "gate"

abbrev pub map_word : MapShape → List ℕ
map_word ms.Map = codes "map"
map_word ms.Mapc = codes "mapc"
map_word ms.Filter = codes "filter"

abbrev pub join_word : JoinShape → List ℕ
join_word js.Merge = codes "merge"
join_word js.Snapshot = codes "snapshot"

abbrev pub fold_word : FoldShape → List ℕ
fold_word fs.Accum = codes "accum"
fold_word fs.Collect = codes "collect"
