-- The type that an expression has over a list of types of its variables.
use Rattle.std.specs.Prelude.{nat_le, Bool, true, false, ◌&&◌, List, [], ◌∷◌, ◌++◌, length, Option, Some, None, slice_get}
use Rattle.frp_base.specs.declared.ty.Ty.{Ty}
use Rattle.frp_base.specs.declared.ty.Ty.TheVariants as t
use Rattle.frp_base.specs.Ty.{ty_eq}
use Rattle.frp_expr.specs.Operators.{most}
use Rattle.frp_expr.specs.Types.{is_plain, is_list, is_comparable, first_type, second_type, item_type, has_length, given, fits, is_text}
use Rattle.frp_expr.specs.declared.expr.Expr.{Expr}
use Rattle.frp_expr.specs.declared.expr.Expr.TheOpen.{Expr-F}
use Rattle.frp_expr.specs.declared.expr.Expr.TheOpen as e
use Rattle.frp_expr.specs.declared.expr.Expr.TheFolds.{fold-Expr}

-- a declared function: the types of its kept values, of its argument and of its result
pub record Sig : Type 0 where
  pub kept : List Ty
  pub arg : Ty
  pub result : Ty

infixl 10 ◌>>=◌
abbrev pub ◌>>=◌ : {A B : Type 0} → Option A → (A → Option B) → Option B
(Some x) >>= f = f x
None >>= f = None

-- an expression has a type, or none, for each list of types of its variables
abbrev pub Kind : Type 0
Kind = List Ty → Option Ty

-- whether this is the type that there is
abbrev pub has : Ty → Option Ty → Bool
has x None = false
has x (Some y) = ty_eq y x

-- whether each of several has the type, and whether they have these types, one by one
abbrev pub all_have : Ty → List Kind → List Ty → Bool
all_have x [] ts = true
all_have x (k ∷ ks) ts = has x (k ts) && all_have x ks ts

abbrev pub each_has : List Ty → List Kind → List Ty → Bool
each_has [] [] ts = true
each_has (x ∷ xs) (k ∷ ks) ts = has x (k ts) && each_has xs ks ts
each_has _ _ ts = false

-- the list of these items, of which there is one at least: all of one plain type
abbrev pub list_kind : List Kind → Kind
list_kind [] ts = None
list_kind (k ∷ ks) ts = do
  x ← k ts
  given (is_plain x && all_have x ks ts && nat_le (length (k ∷ ks)) most) (t.List x)

module _ (sigs : List Sig) where
  abbrev pub type_step : Expr-F Kind → Kind
  type_step (e.Int n) ts = given (fits n) t.Int
  type_step (e.Bool b) ts = Some t.Bool
  type_step (e.Text x) ts = given (is_text x) t.Text
  type_step (e.Var i) ts = slice_get ts i
  type_step (e.Neg a) ts = given (has t.Int (a ts)) t.Int
  type_step (e.Not a) ts = given (has t.Bool (a ts)) t.Bool
  type_step (e.First a) ts = a ts >>= first_type
  type_step (e.Second a) ts = a ts >>= second_type
  type_step (e.Len a) ts = a ts >>= λ x. given (has_length x) t.Int
  type_step (e.Show a) ts = given (has t.Int (a ts)) t.Text
  type_step (e.Let a b) ts = a ts >>= λ x. b (ts ++ x ∷ [])
  type_step (e.Add a b) ts = given (has t.Int (a ts) && has t.Int (b ts)) t.Int
  type_step (e.Sub a b) ts = given (has t.Int (a ts) && has t.Int (b ts)) t.Int
  type_step (e.Mul a b) ts = given (has t.Int (a ts) && has t.Int (b ts)) t.Int
  type_step (e.Div a b) ts = given (has t.Int (a ts) && has t.Int (b ts)) t.Int
  type_step (e.Rem a b) ts = given (has t.Int (a ts) && has t.Int (b ts)) t.Int
  type_step (e.Lt a b) ts = given (has t.Int (a ts) && has t.Int (b ts)) t.Bool
  type_step (e.Eq a b) ts = a ts >>= λ x. given (is_comparable x && has x (b ts)) t.Bool
  type_step (e.And a b) ts = given (has t.Bool (a ts) && has t.Bool (b ts)) t.Bool
  type_step (e.Or a b) ts = given (has t.Bool (a ts) && has t.Bool (b ts)) t.Bool
  type_step (e.Pair a b) ts = a ts >>= λ x. b ts >>= λ y. Some (t.Pair x y)
  type_step (e.Append a b) ts = a ts >>= λ x. given (is_list x && has x (b ts)) x
  type_step (e.Cat a b) ts = given (has t.Text (a ts) && has t.Text (b ts)) t.Text
  type_step (e.If c a b) ts = a ts >>= λ x. given (has t.Bool (c ts) && has x (b ts)) x
  type_step (e.At a i d) ts = a ts >>= λ l. item_type l >>= λ x. given (has t.Int (i ts) && has x (d ts)) x
  type_step (e.List ks) ts = list_kind ks ts
  type_step (e.Nil x) ts = given (is_plain x) (t.List x)
  type_step (e.Close f ks) ts = slice_get sigs f >>= λ s. given (each_has s.kept ks ts) (t.Fun s.arg s.result)

  -- the type of an expression over these types, where these are the declared functions
  abbrev pub type_in : Expr → List Ty → Option Ty
  type_in = fold-Expr Kind type_step
