-- The words that shapes begin with.
use Rattle.std.specs.Prelude.{ℕ, if◌then◌else◌, List, codes, Option, Some, None}
use Rattle.std.specs.Str.{bytes_eq}
use Rattle.frp_expr.specs.declared.raw.Raw.{Raw}
use Rattle.frp_expr.specs.declared.raw.RawTy.{RawTy}
use Rattle.frp_expr.specs.declared.raw.Spot.{Spot}
use Rattle.frp_file.specs.declared.file.ShapeForm.{ShapeForm}
use Rattle.frp_file.specs.declared.file.ShapeForm.TheVariants as form
use Rattle.frp_form.specs.declared.shape_heads.TyShape.{TyShape}
use Rattle.frp_form.specs.declared.shape_heads.TyShape.TheVariants as t
use Rattle.frp_form.specs.declared.shape_heads.UnaryShape.{UnaryShape}
use Rattle.frp_form.specs.declared.shape_heads.UnaryShape.TheVariants as u
use Rattle.frp_form.specs.declared.shape_heads.BinaryShape.{BinaryShape}
use Rattle.frp_form.specs.declared.shape_heads.BinaryShape.TheVariants as b
use Rattle.frp_form.specs.declared.shape_heads.MapShape.{MapShape}
use Rattle.frp_form.specs.declared.shape_heads.MapShape.TheVariants as m
use Rattle.frp_form.specs.declared.shape_heads.JoinShape.{JoinShape}
use Rattle.frp_form.specs.declared.shape_heads.JoinShape.TheVariants as j
use Rattle.frp_form.specs.declared.shape_heads.FoldShape.{FoldShape}
use Rattle.frp_form.specs.declared.shape_heads.FoldShape.TheVariants as d
use Rattle.frp_form.specs.declared.shape_heads.ShapeHead.{ShapeHead}
use Rattle.frp_form.specs.declared.shape_heads.ShapeHead.TheVariants as h

-- what a head word of a shape of an expression over values, or of a template, means
abbrev pub other_shape_head : List ℕ → Option ShapeHead
other_shape_head w =
    if bytes_eq w (codes "map") then Some (h.Mapping m.Map)
    else if bytes_eq w (codes "mapc") then Some (h.Mapping m.Mapc)
    else if bytes_eq w (codes "filter") then Some (h.Mapping m.Filter)
    else if bytes_eq w (codes "merge") then Some (h.Joining j.Merge)
    else if bytes_eq w (codes "snapshot") then Some (h.Joining j.Snapshot)
    else if bytes_eq w (codes "accum") then Some (h.Folding d.Accum)
    else if bytes_eq w (codes "collect") then Some (h.Folding d.Collect)
    else if bytes_eq w (codes "lift2") then Some h.Lift2
    else if bytes_eq w (codes "execute") then Some h.Execute
    else None

-- what a head word of a shape of two operands, or of an expression over values, means
abbrev pub binary_shape_head : List ℕ → Option ShapeHead
binary_shape_head w =
    if bytes_eq w (codes "hold") then Some (h.Binary b.Hold)
    else if bytes_eq w (codes "apply") then Some (h.Binary b.Apply)
    else if bytes_eq w (codes "orelse") then Some (h.Binary b.Orelse)
    else if bytes_eq w (codes "gate") then Some (h.Binary b.Gate)
    else other_shape_head w

-- what a head word of a shape of one operand or more means
abbrev pub unary_shape_head : List ℕ → Option ShapeHead
unary_shape_head w =
    if bytes_eq w (codes "constant") then Some (h.Unary u.Constant)
    else if bytes_eq w (codes "split") then Some (h.Unary u.Split)
    else if bytes_eq w (codes "updates") then Some (h.Unary u.Updates)
    else if bytes_eq w (codes "value") then Some (h.Unary u.Value)
    else if bytes_eq w (codes "switchs") then Some (h.Unary u.Switchs)
    else if bytes_eq w (codes "switchc") then Some (h.Unary u.Switchc)
    else if bytes_eq w (codes "once") then Some (h.Unary u.Once)
    else if bytes_eq w (codes "defer") then Some (h.Unary u.Defer)
    else binary_shape_head w

-- what a head word of shapes means
abbrev pub shape_head : List ℕ → Option ShapeHead
shape_head w =
    if bytes_eq w (codes "never") then Some (h.Typed t.Never)
    else if bytes_eq w (codes "loops") then Some (h.Typed t.Loops)
    else if bytes_eq w (codes "loopc") then Some (h.Typed t.Loopc)
    else unary_shape_head w

-- the shapes of these heads over their parts

abbrev pub typed_shape : TyShape → RawTy → ShapeForm
typed_shape t.Never ty = form.Never ty
typed_shape t.Loops ty = form.Loops ty
typed_shape t.Loopc ty = form.Loopc ty

abbrev pub unary_shape : UnaryShape → Raw → ShapeForm
unary_shape u.Constant a = form.Constant a
unary_shape u.Split a = form.Split a
unary_shape u.Updates a = form.Updates a
unary_shape u.Value a = form.Value a
unary_shape u.Switchs a = form.Switchs a
unary_shape u.Switchc a = form.Switchc a
unary_shape u.Once a = form.Once a
unary_shape u.Defer a = form.Defer a

abbrev pub binary_shape : BinaryShape → Raw → Raw → ShapeForm
binary_shape b.Hold a b = form.Hold a b
binary_shape b.Apply a b = form.Apply a b
binary_shape b.Orelse a b = form.Orelse a b
binary_shape b.Gate a b = form.Gate a b

abbrev pub map_shape : MapShape → Spot → Raw → Raw → ShapeForm
map_shape m.Map x a e = form.Map x a e
map_shape m.Mapc x a e = form.Mapc x a e
map_shape m.Filter x a e = form.Filter x a e

abbrev pub join_shape : JoinShape → Spot → Spot → Raw → Raw → Raw → ShapeForm
join_shape j.Merge x y a b e = form.Merge x y a b e
join_shape j.Snapshot x y a b e = form.Snapshot x y a b e

abbrev pub fold_shape : FoldShape → RawTy → Spot → Spot → Raw → Raw → Raw → ShapeForm
fold_shape d.Accum ty x y s o e = form.Accum ty x y s o e
fold_shape d.Collect ty x y s o e = form.Collect ty x y s o e
