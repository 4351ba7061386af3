-- Which entries of a scope an expression uses.
use Rattle.std.specs.Prelude.{ℕ, nat_lt, not, ◌&&◌, ◌==◌, List, [], ◌∷◌, ◌++◌, if◌then◌else◌}
use Rattle.std.specs.List.{list_any}
use Rattle.frp_expr.specs.declared.expr.Expr.{Expr}
use Rattle.frp_expr.specs.declared.expr.Expr.TheOpen.{Expr-F}
use Rattle.frp_expr.specs.declared.expr.Expr.TheOpen as e
use Rattle.frp_expr.specs.declared.expr.Expr.TheFolds.{fold-Expr}

-- one more entry below n that is used, where it is not among these yet
abbrev pub note : ℕ → List ℕ → ℕ → List ℕ
note n used i = if nat_lt i n && not (list_any (λ j. j == i) used) then used ++ i ∷ [] else used

-- the entries that are used after an expression, for those that are used before it: its parts are gone through from the left
abbrev pub Noting : Type 0
Noting = List ℕ → List ℕ

abbrev pub each_noted : List Noting → Noting
each_noted [] used = used
each_noted (a ∷ more) used = each_noted more (a used)

module _ (n : ℕ) where
  abbrev pub noting_step : Expr-F Noting → Noting
  noting_step (e.Int n) used = used
  noting_step (e.Bool b) used = used
  noting_step (e.Text t) used = used
  noting_step (e.Var i) used = note n used i
  noting_step (e.Neg a) used = a used
  noting_step (e.Not a) used = a used
  noting_step (e.First a) used = a used
  noting_step (e.Second a) used = a used
  noting_step (e.Len a) used = a used
  noting_step (e.Show a) used = a used
  noting_step (e.Let a b) used = b (a used)
  noting_step (e.Add a b) used = b (a used)
  noting_step (e.Sub a b) used = b (a used)
  noting_step (e.Mul a b) used = b (a used)
  noting_step (e.Div a b) used = b (a used)
  noting_step (e.Rem a b) used = b (a used)
  noting_step (e.Lt a b) used = b (a used)
  noting_step (e.Eq a b) used = b (a used)
  noting_step (e.And a b) used = b (a used)
  noting_step (e.Or a b) used = b (a used)
  noting_step (e.Pair a b) used = b (a used)
  noting_step (e.Append a b) used = b (a used)
  noting_step (e.Cat a b) used = b (a used)
  noting_step (e.If c a b) used = b (a (c used))
  noting_step (e.At a i d) used = d (i (a used))
  noting_step (e.List es) used = each_noted es used
  noting_step (e.Nil t) used = used
  noting_step (e.Close f es) used = each_noted es used

  abbrev pub noting : Expr → Noting
  noting = fold-Expr Noting noting_step

  -- the entries that an expression uses of a scope of n names, in the order of first use
  abbrev pub uses : Expr → List ℕ
  uses e = noting e []
