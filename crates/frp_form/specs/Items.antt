-- Items and declarations.
use Rattle.std.specs.Prelude.{ℕ, if◌then◌else◌, List, codes, Option, Some, None, Ok}
use Rattle.std.specs.Str.{bytes_eq}
use Rattle.frp_file.specs.declared.file.Item.{Item}
use Rattle.frp_file.specs.declared.file.ItemForm.{ItemForm}
use Rattle.frp_file.specs.declared.file.ItemForm.TheVariants as i
use Rattle.frp_form.specs.declared.item_heads.ItemHead.{ItemHead}
use Rattle.frp_form.specs.declared.item_heads.ItemHead.TheVariants as h
use Rattle.frp_form.specs.Gives.{Parser, ◌>>=◌}
use Rattle.frp_form.specs.Tokens.{left, right, spot, head}
use Rattle.frp_form.specs.Types.{whole_ty}
use Rattle.frp_form.specs.Exprs.{whole_expr}
use Rattle.frp_form.specs.Shapes.{shape}

-- what a head word of items means in the body of a template
abbrev pub body_head : List ℕ → Option ItemHead
body_head w =
    if bytes_eq w (codes "let") then Some h.Let
    else if bytes_eq w (codes "tie") then Some h.Tie
    else if bytes_eq w (codes "get") then Some h.Get
    else None

-- an item at its place
abbrev pub placed_item : ℕ → ItemForm → Item
placed_item at form = record { at = at; form = form }

module _ (end : ℕ) where
  -- the parts and the right parenthesis of an item that begins at this place

  unfoldable pub sink_at : ℕ → Parser Item
  sink_at at ts = do
    name ← spot end ts
    ty ← whole_ty end name.1
    after ← right end ty.1
    Ok (placed_item at (i.Sink name.0 ty.0), after)

  unfoldable pub cellsink_at : ℕ → Parser Item
  cellsink_at at ts = do
    sink ← spot end ts
    cell ← spot end sink.1
    ty ← whole_ty end cell.1
    first ← whole_expr end ty.1
    after ← right end first.1
    Ok (placed_item at (i.Cellsink sink.0 cell.0 ty.0 first.0), after)

  unfoldable pub let_at : ℕ → Parser Item
  let_at at ts = do
    name ← spot end ts
    s ← shape end name.1
    after ← right end s.1
    Ok (placed_item at (i.Let name.0 s.0), after)

  unfoldable pub tie_at : ℕ → Parser Item
  tie_at at ts = do
    from ← spot end ts
    to ← spot end from.1
    after ← right end to.1
    Ok (placed_item at (i.Tie from.0 to.0), after)

  unfoldable pub get_at : ℕ → Parser Item
  get_at at ts = do
    name ← spot end ts
    cell ← whole_expr end name.1
    after ← right end cell.1
    Ok (placed_item at (i.Get name.0 cell.0), after)

  abbrev pub item_parts : ℕ → ItemHead → Parser Item
  item_parts at h.Sink ts = sink_at at ts
  item_parts at h.Cellsink ts = cellsink_at at ts
  item_parts at h.Let ts = let_at at ts
  item_parts at h.Tie ts = tie_at at ts
  item_parts at h.Get ts = get_at at ts

  -- an item of the body of a template
  unfoldable pub body_item : Parser Item
  body_item ts = do
    at ← left end ts
    op ← head end body_head at.1
    item_parts at.0 op.0 op.1
