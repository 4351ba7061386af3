-- What the expansion itself makes. No name of the user begins with a percent sign, so its names hide nothing of theirs.
use Rattle.std.specs.Prelude.{ℕ, Bool, [], ◌∷◌, ◌++◌, codes}
use Rattle.std.specs.Fmt.{decimal}
use Rattle.frp_base.specs.declared.text.Text.{Text}
use Rattle.frp_expr.specs.declared.raw.Raw.{Raw, roll-Raw}
use Rattle.frp_expr.specs.declared.raw.RawForm.{RawForm}
use Rattle.frp_expr.specs.declared.raw.RawForm.TheVariants as e
use Rattle.frp_expr.specs.declared.raw.Spot.{Spot}
use Rattle.frp_file.specs.declared.file.Item.{Item}
use Rattle.frp_file.specs.declared.file.ItemForm.TheVariants as i
use Rattle.frp_file.specs.declared.file.ShapeForm.{ShapeForm}

-- the names of a body's hidden items, and of the file's hidden functions
abbrev pub hidden_item : ℕ → Text
hidden_item n = codes "%" ++ decimal n

abbrev pub hidden_function : ℕ → Text
hidden_function m = codes "%f" ++ decimal m

-- Names and expressions that stand at one place.
module _ (at : ℕ) where
  abbrev pub spot : Text → Spot
  spot t = record { at = at; text = t }

  abbrev pub raw : RawForm → Raw
  raw form = roll-Raw (record { at = at; form = form })

  abbrev pub name : Text → Raw
  name t = raw (e.Name t)

  abbrev pub bool : Bool → Raw
  bool b = raw (e.Bool b)

  abbrev pub pair : Raw → Raw → Raw
  pair x y = raw (e.Pair x y)

  abbrev pub first : Raw → Raw
  first x = raw (e.First x)

  abbrev pub second : Raw → Raw
  second x = raw (e.Second x)

  -- the variables that the rows of the table write
  abbrev pub u : Spot
  u = spot (codes "%u")

  abbrev pub v : Spot
  v = spot (codes "%v")

  abbrev pub w : Spot
  w = spot (codes "%w")

  -- the list of one item
  abbrev pub list : Raw → Raw
  list x = raw (e.List (x ∷ []))

  -- the function of this name, closed over one kept value
  abbrev pub close : Text → Raw → Raw
  close f x = raw (e.Close (spot f) (x ∷ []))

-- The items `(let s shape)` and `(tie s t)` at a place, with what the expansion makes at p.

abbrev pub bound : ℕ → ℕ → Spot → ShapeForm → Item
bound at p s shape = record { at = at; form = i.Let s (record { at = p; form = shape }) }

abbrev pub tied : ℕ → ℕ → Spot → Spot → Item
tied at p s t = record { at = at; form = i.Tie s (spot p t.text) }
