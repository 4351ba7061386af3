-- Shapes.
use Rattle.std.specs.Prelude.{ℕ, Ok}
use Rattle.frp_expr.specs.declared.raw.Raw.{Raw}
use Rattle.frp_file.specs.declared.file.Param.{Param}
use Rattle.frp_file.specs.declared.file.RawShape.{RawShape}
use Rattle.frp_file.specs.declared.file.ShapeForm.{ShapeForm}
use Rattle.frp_file.specs.declared.file.ShapeForm.TheVariants as form
use Rattle.frp_form.specs.declared.shape_heads.TyShape.{TyShape}
use Rattle.frp_form.specs.declared.shape_heads.UnaryShape.{UnaryShape}
use Rattle.frp_form.specs.declared.shape_heads.BinaryShape.{BinaryShape}
use Rattle.frp_form.specs.declared.shape_heads.MapShape.{MapShape}
use Rattle.frp_form.specs.declared.shape_heads.JoinShape.{JoinShape}
use Rattle.frp_form.specs.declared.shape_heads.FoldShape.{FoldShape}
use Rattle.frp_form.specs.declared.shape_heads.ShapeHead.{ShapeHead}
use Rattle.frp_form.specs.declared.shape_heads.ShapeHead.TheVariants as h
use Rattle.frp_form.specs.Gives.{Parser, ◌>>=◌}
use Rattle.frp_form.specs.Tokens.{left, right, spot, two_names, head}
use Rattle.frp_form.specs.Types.{whole_ty}
use Rattle.frp_form.specs.Exprs.{whole_expr, kept_exprs}
use Rattle.frp_form.specs.ShapeHeads.{shape_head, typed_shape, unary_shape, binary_shape, map_shape, join_shape, fold_shape}

-- a shape at its place
abbrev pub shape_at : ℕ → ShapeForm → RawShape
shape_at at f = record { at = at; form = f }

module _ (end : ℕ) where
  -- a name and its type
  unfoldable pub param : Parser Param
  param ts = do
    at ← left end ts
    name ← spot end at.1
    ty ← whole_ty end name.1
    after ← right end ty.1
    Ok (record { at = at.0; name = name.0; ty = ty.0 }, after)

  -- three expressions
  unfoldable pub three_exprs : Parser (Raw × Raw × Raw)
  three_exprs ts = do
    a ← whole_expr end ts
    b ← whole_expr end a.1
    c ← whole_expr end b.1
    Ok ((a.0, b.0, c.0), c.1)

  -- the parts and the right parenthesis of a shape that begins at this place

  unfoldable pub typed_at : ℕ → TyShape → Parser RawShape
  typed_at at op ts = do
    ty ← whole_ty end ts
    after ← right end ty.1
    Ok (shape_at at (typed_shape op ty.0), after)

  unfoldable pub unary_at : ℕ → UnaryShape → Parser RawShape
  unary_at at op ts = do
    a ← whole_expr end ts
    after ← right end a.1
    Ok (shape_at at (unary_shape op a.0), after)

  unfoldable pub binary_at : ℕ → BinaryShape → Parser RawShape
  binary_at at op ts = do
    a ← whole_expr end ts
    b ← whole_expr end a.1
    after ← right end b.1
    Ok (shape_at at (binary_shape op a.0 b.0), after)

  unfoldable pub map_at : ℕ → MapShape → Parser RawShape
  map_at at op ts = do
    x ← spot end ts
    a ← whole_expr end x.1
    e ← whole_expr end a.1
    after ← right end e.1
    Ok (shape_at at (map_shape op x.0 a.0 e.0), after)

  unfoldable pub join_at : ℕ → JoinShape → Parser RawShape
  join_at at op ts = do
    names ← two_names end ts
    parts ← three_exprs names.1
    after ← right end parts.1
    Ok (shape_at at (join_shape op names.0.0 names.0.1 parts.0.0 parts.0.1 parts.0.2), after)

  unfoldable pub fold_at : ℕ → FoldShape → Parser RawShape
  fold_at at op ts = do
    ty ← whole_ty end ts
    names ← two_names end ty.1
    parts ← three_exprs names.1
    after ← right end parts.1
    Ok (shape_at at (fold_shape op ty.0 names.0.0 names.0.1 parts.0.0 parts.0.1 parts.0.2), after)

  unfoldable pub lift_at : ℕ → Parser RawShape
  lift_at at ts = do
    x ← param ts
    y ← param x.1
    parts ← three_exprs y.1
    after ← right end parts.1
    Ok (shape_at at (form.Lift2 x.0 y.0 parts.0.0 parts.0.1 parts.0.2), after)

  -- as many kept values as there are
  unfoldable pub execute_at : ℕ → Parser RawShape
  execute_at at ts = do
    s ← whole_expr end ts
    name ← spot end s.1
    kept ← kept_exprs end name.1
    Ok (shape_at at (form.Execute s.0 name.0 kept.0), kept.1)

  abbrev pub shape_parts : ℕ → ShapeHead → Parser RawShape
  shape_parts at (h.Typed op) ts = typed_at at op ts
  shape_parts at (h.Unary op) ts = unary_at at op ts
  shape_parts at (h.Binary op) ts = binary_at at op ts
  shape_parts at (h.Mapping op) ts = map_at at op ts
  shape_parts at (h.Joining op) ts = join_at at op ts
  shape_parts at (h.Folding op) ts = fold_at at op ts
  shape_parts at h.Lift2 ts = lift_at at ts
  shape_parts at h.Execute ts = execute_at at ts

  unfoldable pub shape : Parser RawShape
  shape ts = do
    at ← left end ts
    op ← head end shape_head at.1
    shape_parts at.0 op.0 op.1
