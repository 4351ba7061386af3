-- Expressions with their variables numbered anew.
use Rattle.std.specs.Prelude.{ℕ, suc, ◌+◌, ◌-◌, nat_lt, ◌==◌, List, [], ◌∷◌, length, filter, if◌then◌else◌}
use Rattle.frp_expr.specs.declared.expr.Expr.{Expr}
use Rattle.frp_expr.specs.declared.expr.Expr.TheFolds.{fold-Expr}
use Rattle.frp_expr.specs.declared.expr.Expr.TheOpen.{Expr-F}
use Rattle.frp_expr.specs.declared.expr.Expr.TheOpen as e
use Rattle.frp_expr.specs.declared.expr.Expr.TheVariants as x
use Rattle.frp_expr.specs.Uses.{uses}

module _ (number : ℕ → ℕ) where
  abbrev pub renumber_step : Expr-F Expr → Expr
  renumber_step (e.Int n) = x.Int n
  renumber_step (e.Bool b) = x.Bool b
  renumber_step (e.Text t) = x.Text t
  renumber_step (e.Var i) = x.Var (number i)
  renumber_step (e.Neg a) = x.Neg a
  renumber_step (e.Not a) = x.Not a
  renumber_step (e.First a) = x.First a
  renumber_step (e.Second a) = x.Second a
  renumber_step (e.Len a) = x.Len a
  renumber_step (e.Show a) = x.Show a
  renumber_step (e.Let a b) = x.Let a b
  renumber_step (e.Add a b) = x.Add a b
  renumber_step (e.Sub a b) = x.Sub a b
  renumber_step (e.Mul a b) = x.Mul a b
  renumber_step (e.Div a b) = x.Div a b
  renumber_step (e.Rem a b) = x.Rem a b
  renumber_step (e.Lt a b) = x.Lt a b
  renumber_step (e.Eq a b) = x.Eq a b
  renumber_step (e.And a b) = x.And a b
  renumber_step (e.Or a b) = x.Or a b
  renumber_step (e.Pair a b) = x.Pair a b
  renumber_step (e.Append a b) = x.Append a b
  renumber_step (e.Cat a b) = x.Cat a b
  renumber_step (e.If c a b) = x.If c a b
  renumber_step (e.At a i d) = x.At a i d
  renumber_step (e.List es) = x.List es
  renumber_step (e.Nil t) = x.Nil t
  renumber_step (e.Close f es) = x.Close f es

  -- the expression with each variable numbered so
  abbrev pub renumbered_vars : Expr → Expr
  renumbered_vars = fold-Expr Expr renumber_step

-- the position of the first item that is this one, or the length where none is
abbrev pub position : ℕ → List ℕ → ℕ
position i [] = 0
position i (j ∷ js) = if j == i then 0 else suc (position i js)

-- The number of a variable of an expression over n values and others after them, where of the n values only those at these
-- positions are kept, in this order.
abbrev pub kept_number : ℕ → List ℕ → ℕ → ℕ
kept_number n kept i = if nat_lt i n then position i kept else (i - n) + length kept

-- those of the first n values that an expression over n values and m more uses, in the order of first use
abbrev pub used_of : ℕ → ℕ → Expr → List ℕ
used_of n m e = filter (λ i. nat_lt i n) (uses (n + m) e)

-- an expression over n values and m more, as one over those of the n that it uses and the m
abbrev pub closed : ℕ → ℕ → Expr → Expr
closed n m e = renumbered_vars (kept_number n (used_of n m e)) e
