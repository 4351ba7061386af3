-- Shapes that several rows of the table have, at p.
use Rattle.std.specs.Prelude.{ℕ}
use Rattle.frp_expr.specs.declared.raw.Raw.{Raw}
use Rattle.frp_file.specs.declared.file.ShapeForm.{ShapeForm}
use Rattle.frp_file.specs.declared.file.ShapeForm.TheVariants.{Map, Filter, Snapshot}
use Rattle.frp_sugar.specs.Made.{name, pair, first, second, u, v, w}

module _ (p : ℕ) where
  -- the pairs of a stream's occurrences and a cell's values
  abbrev pub pairs : Raw → Raw → ShapeForm
  pairs s c = Snapshot (u p) (v p) s c (pair p (name p (u p).text) (name p (v p).text))

  -- the pairs whose second part is true
  abbrev pub passing : Raw → ShapeForm
  passing s = Filter (w p) s (second p (name p (w p).text))

  -- the first and the second parts of pairs
  abbrev pub firsts : Raw → ShapeForm
  firsts s = Map (w p) s (first p (name p (w p).text))

  abbrev pub seconds : Raw → ShapeForm
  seconds s = Map (w p) s (second p (name p (w p).text))
