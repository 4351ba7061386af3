-- The table of the derived forms: the core items that stand for each.
use Rattle.std.specs.Prelude.{ℕ, ◌+◌, true, false, List, [], ◌∷◌}
use Rattle.frp_expr.specs.declared.raw.Raw.{Raw}
use Rattle.frp_expr.specs.declared.raw.Spot.{Spot}
use Rattle.frp_file.specs.declared.file.Function.{Function}
use Rattle.frp_file.specs.declared.file.Item.{Item}
use Rattle.frp_file.specs.declared.file.ShapeForm.{ShapeForm}
use Rattle.frp_file.specs.declared.file.ShapeForm.TheVariants.{Map, Mapc, Filter, Merge, Snapshot, Split, Loopc, Hold, Apply, Orelse, Gate, Once, Accum, Collect, Lift2, Defer}
use Rattle.frp_sugar.specs.Made.{hidden_item, hidden_function, spot, name, bool, pair, first, second, list, close, u, v, w, bound, tied}

-- The items that stand for `(let x FORM)`. The item stands at a place `at` and the form at p. The next hidden item of the body
-- is that of number n, the next hidden function of the file that of number m. What a form's row writes of its own stands at p.
module _ (at : ℕ) (x : Spot) (p : ℕ) (n m : ℕ) where
  -- the next hidden items, and the names of the variables that the rows write
  abbrev pub %a : Spot
  %a = spot p (hidden_item n)

  abbrev pub %b : Spot
  %b = spot p (hidden_item (n + 1))

  abbrev pub %c : Spot
  %c = spot p (hidden_item (n + 2))

  abbrev pub %d : Spot
  %d = spot p (hidden_item (n + 3))

  abbrev pub %u : Spot
  %u = u p

  abbrev pub %v : Spot
  %v = v p

  abbrev pub %w : Spot
  %w = w p

  -- a name as an expression
  abbrev pub the : Spot → Raw
  the s = name p s.text

  infix 20 ◌is◌
  abbrev pub ◌is◌ : Spot → ShapeForm → Item
  s is shape = bound at p s shape

  abbrev pub tie : Spot → Spot → Item
  tie s t = tied at p s t

  abbrev pub let_items : ShapeForm → List Item
  let_items (Orelse a b) = (x is Merge %u %v a b (the %u)) ∷ []
  let_items (Gate s c) =
      (%a is Snapshot %u %v s c (pair p (the %u) (the %v)))
      ∷ (%b is Filter %w (the %a) (second p (the %w)))
      ∷ (x is Map %w (the %b) (first p (the %w)))
      ∷ []
  let_items (Once s) =
      (%a is Map %u s (bool p false))
      ∷ (%b is Hold (bool p true) (the %a))
      ∷ (%c is Snapshot %u %v s (the %b) (pair p (the %u) (the %v)))
      ∷ (%d is Filter %w (the %c) (second p (the %w)))
      ∷ (x is Map %w (the %d) (first p (the %w)))
      ∷ []
  let_items (Accum ty y z s o e) =
      (%a is Loopc ty)
      ∷ (%b is Snapshot y z s (the %a) e)
      ∷ (x is Hold o (the %b))
      ∷ tie %a x
      ∷ []
  let_items (Collect ty y z s o e) =
      (%a is Loopc ty)
      ∷ (%b is Snapshot y z s (the %a) e)
      ∷ (%c is Map %w (the %b) (second p (the %w)))
      ∷ (%d is Hold o (the %c))
      ∷ (x is Map %w (the %b) (first p (the %w)))
      ∷ tie %a %d
      ∷ []
  let_items (Lift2 y z ca cb e) =
      (%a is Mapc y.name ca (close p (hidden_function m) (the y.name)))
      ∷ (x is Apply (the %a) cb)
      ∷ []
  let_items (Defer s) =
      (%a is Map %u s (list p (the %u)))
      ∷ (x is Split (the %a))
      ∷ []
  let_items shape = (x is shape) ∷ []

-- the hidden function of a form at p, where it has one: that of number m
abbrev pub shape_functions : ℕ → ℕ → ShapeForm → List Function
shape_functions p m (Lift2 y z ca cb e) =
    record { at = p; name = spot p (hidden_function m); kept = y ∷ []; arg = z; e = e } ∷ []
shape_functions p m _ = []

-- how many hidden items a form has, and how many hidden functions

abbrev pub shape_hidden : ShapeForm → ℕ
shape_hidden (Gate s c) = 2
shape_hidden (Once s) = 4
shape_hidden (Accum ty y z s o e) = 2
shape_hidden (Collect ty y z s o e) = 4
shape_hidden (Lift2 y z ca cb e) = 1
shape_hidden (Defer s) = 1
shape_hidden _ = 0

abbrev pub shape_hidden_functions : ShapeForm → ℕ
shape_hidden_functions (Lift2 y z ca cb e) = 1
shape_hidden_functions _ = 0
