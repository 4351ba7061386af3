-- Written expressions: which are lawful, what they stand for, and the type that one has or its first fault.
use Rattle.std.specs.Prelude.{ℕ, nat_le, Bool, true, ◌&&◌, ◌==◌, List, [], ◌∷◌, ◌++◌, length, Option, Some, None, Result, Ok, Err, slice_get, if◌then◌else◌}
use Rattle.std.specs.List.{list_all}
use Rattle.frp_base.specs.declared.text.Text.{Text}
use Rattle.frp_base.specs.declared.ty.Ty.{Ty}
use Rattle.frp_base.specs.declared.ty.Ty.TheVariants as t
use Rattle.frp_base.specs.Ty.{ty_eq}
use Rattle.frp_expr.specs.Operators.{most}
use Rattle.frp_expr.specs.Types.{is_plain, is_list, is_comparable, first_type, second_type, item_type, has_length, given, fits, is_text}
use Rattle.frp_expr.specs.Scope.{Named, Fun, number_of, names_of, types_of, fun_names}
use Rattle.frp_expr.specs.declared.expr.Expr.{Expr}
use Rattle.frp_expr.specs.declared.expr.Expr.TheVariants as x
use Rattle.frp_expr.specs.declared.fault.TypeFault.{TypeFault}
use Rattle.frp_expr.specs.declared.fault.TypeKind.{TypeKind}
use Rattle.frp_expr.specs.declared.fault.TypeKind.TheVariants as kind
use Rattle.frp_expr.specs.declared.raw.Spot.{Spot}
use Rattle.frp_expr.specs.declared.raw.RawTy.{RawTy, fold-RawTy}
use Rattle.frp_expr.specs.declared.raw.TyForm.{TyForm-F}
use Rattle.frp_expr.specs.declared.raw.TyForm.TheOpen as y
use Rattle.frp_expr.specs.declared.raw.Raw.{Raw, fold-Raw}
use Rattle.frp_expr.specs.declared.raw.RawForm.{RawForm-F}
use Rattle.frp_expr.specs.declared.raw.RawForm.TheOpen as o

-- Lawful: each number has 64 bits, each literal text is printable and has at most 1,024 bytes, and each list form has 1 to 1,024 items.

abbrev pub is_lawful_step : RawForm-F Bool Bool → Bool
is_lawful_step (o.Int n) = fits n
is_lawful_step (o.Bool b) = true
is_lawful_step (o.Text s) = is_text s
is_lawful_step (o.Name n) = true
is_lawful_step (o.Neg a) = a
is_lawful_step (o.Not a) = a
is_lawful_step (o.First a) = a
is_lawful_step (o.Second a) = a
is_lawful_step (o.Len a) = a
is_lawful_step (o.Show a) = a
is_lawful_step (o.Let n a b) = a && b
is_lawful_step (o.Add a b) = a && b
is_lawful_step (o.Sub a b) = a && b
is_lawful_step (o.Mul a b) = a && b
is_lawful_step (o.Div a b) = a && b
is_lawful_step (o.Rem a b) = a && b
is_lawful_step (o.Lt a b) = a && b
is_lawful_step (o.Eq a b) = a && b
is_lawful_step (o.And a b) = a && b
is_lawful_step (o.Or a b) = a && b
is_lawful_step (o.Pair a b) = a && b
is_lawful_step (o.Append a b) = a && b
is_lawful_step (o.Cat a b) = a && b
is_lawful_step (o.If c a b) = c && a && b
is_lawful_step (o.At a i d) = a && i && d
is_lawful_step (o.List ps) = list_all (λ a. a) ps && nat_le 1 (length ps) && nat_le (length ps) most
is_lawful_step (o.Nil a) = true
is_lawful_step (o.Close f ps) = list_all (λ a. a) ps

abbrev pub is_lawful : Raw → Bool
is_lawful = fold-Raw Bool Bool is_lawful_step (λ r. r.form)

-- The type that a written type stands for.

abbrev pub ty_of_step : TyForm-F Ty Ty → Ty
ty_of_step y.Int = t.Int
ty_of_step y.Bool = t.Bool
ty_of_step y.Text = t.Text
ty_of_step (y.Pair a b) = t.Pair a b
ty_of_step (y.List a) = t.List a
ty_of_step (y.Stream a) = t.Stream a
ty_of_step (y.Cell a) = t.Cell a
ty_of_step (y.Fun a b) = t.Fun a b

abbrev pub ty_of : RawTy → Ty
ty_of = fold-RawTy Ty Ty ty_of_step (λ r. r.form)

-- The expression that a written expression stands for over these names and functions: a name is the number of the last of
-- its name. A name that there is not is a number past the end, which has no type.

abbrev pub Standing : Type 0
Standing = List Text → Expr

abbrev pub each_resolved : List Standing → List Text → List Expr
each_resolved [] ns = []
each_resolved (a ∷ more) ns = a ns ∷ each_resolved more ns

module _ (funs : List Text) where
  abbrev pub resolve_step : RawForm-F Standing Standing → Standing
  resolve_step (o.Int n) ns = x.Int n
  resolve_step (o.Bool b) ns = x.Bool b
  resolve_step (o.Text s) ns = x.Text s
  resolve_step (o.Name n) ns = x.Var (number_of n ns)
  resolve_step (o.Neg a) ns = x.Neg (a ns)
  resolve_step (o.Not a) ns = x.Not (a ns)
  resolve_step (o.First a) ns = x.First (a ns)
  resolve_step (o.Second a) ns = x.Second (a ns)
  resolve_step (o.Len a) ns = x.Len (a ns)
  resolve_step (o.Show a) ns = x.Show (a ns)
  resolve_step (o.Let n a b) ns = x.Let (a ns) (b (ns ++ n.text ∷ []))
  resolve_step (o.Add a b) ns = x.Add (a ns) (b ns)
  resolve_step (o.Sub a b) ns = x.Sub (a ns) (b ns)
  resolve_step (o.Mul a b) ns = x.Mul (a ns) (b ns)
  resolve_step (o.Div a b) ns = x.Div (a ns) (b ns)
  resolve_step (o.Rem a b) ns = x.Rem (a ns) (b ns)
  resolve_step (o.Lt a b) ns = x.Lt (a ns) (b ns)
  resolve_step (o.Eq a b) ns = x.Eq (a ns) (b ns)
  resolve_step (o.And a b) ns = x.And (a ns) (b ns)
  resolve_step (o.Or a b) ns = x.Or (a ns) (b ns)
  resolve_step (o.Pair a b) ns = x.Pair (a ns) (b ns)
  resolve_step (o.Append a b) ns = x.Append (a ns) (b ns)
  resolve_step (o.Cat a b) ns = x.Cat (a ns) (b ns)
  resolve_step (o.If c a b) ns = x.If (c ns) (a ns) (b ns)
  resolve_step (o.At a i d) ns = x.At (a ns) (i ns) (d ns)
  resolve_step (o.List ps) ns = x.List (each_resolved ps ns)
  resolve_step (o.Nil a) ns = x.Nil (ty_of a)
  resolve_step (o.Close f ps) ns = x.Close (number_of f.text funs) (each_resolved ps ns)

  abbrev pub resolve : Raw → List Text → Expr
  resolve = fold-Raw Standing Standing resolve_step (λ r. r.form)

-- The type of a written expression, or its first fault. Parts are looked at from the left: each with its own parts first,
-- then its own type in its place, all before the next.

abbrev pub ExprOutcome : Type 0 → Type 0
ExprOutcome A = Result A TypeFault

infixl 10 ◌>>=◌
abbrev pub ◌>>=◌ : {A B : Type 0} → ExprOutcome A → (A → ExprOutcome B) → ExprOutcome B
(Ok a) >>= f = f a
(Err e) >>= f = Err e

-- what there is, else a fault of this kind at this place
abbrev pub or_fault : {A : Type 0} → ℕ → TypeKind → Option A → ExprOutcome A
or_fault at k (Some a) = Ok a
or_fault at k None = Err (record { place = at; kind = k })

-- a part of an expression: its place, and its type over the names in scope
pub record Part : Type 0 where
  pub at : ℕ
  pub typing : List Named → ExprOutcome Ty

-- the part's type, seen so, where it is right
abbrev pub part_by : (Ty → Option Ty) → Part → List Named → ExprOutcome Ty
part_by right p ns = p.typing ns >>= λ x. or_fault p.at kind.Type (right x)

-- the part has this type
abbrev pub part_as : Ty → Part → List Named → ExprOutcome Ty
part_as x = part_by (λ y. given (ty_eq y x) x)

-- two parts of these types, and three
abbrev pub two_as : Ty → Part → Part → List Named → Ty → ExprOutcome Ty
two_as x a b ns result = do
  _ ← part_as x a ns
  _ ← part_as x b ns
  Ok result

-- the items after the first have its type
abbrev pub items_as : Ty → List Part → List Named → ExprOutcome Ty
items_as x [] ns = Ok (t.List x)
items_as x (p ∷ ps) ns = part_as x p ns >>= λ _. items_as x ps ns

abbrev pub list_of : ℕ → List Part → List Named → ExprOutcome Ty
list_of at [] ns = Err (record { place = at; kind = kind.Type })
list_of at (p ∷ ps) ns = part_by (λ x. given (is_plain x) x) p ns >>= λ x. items_as x ps ns

-- the kept values have these types, one by one, of which there are as many
abbrev pub kept_as : List Ty → List Part → List Named → Ty → ExprOutcome Ty
kept_as (x ∷ xs) (p ∷ ps) ns result = part_as x p ns >>= λ _. kept_as xs ps ns result
kept_as _ _ ns result = Ok result

-- the function value of this function, at the place of the function's name
abbrev pub close_of : ℕ → Fun → List Part → List Named → ExprOutcome Ty
close_of at f ps ns = if length ps == length f.1 then kept_as f.1 ps ns (t.Fun f.2 f.3) else Err (record { place = at; kind = kind.Arity })

-- A written type in its place: the items of each list in it are of a plain type.
pub record TyPart : Type 0 where
  pub at : ℕ
  pub ty : ExprOutcome Ty

abbrev pub item_by : TyPart → ExprOutcome Ty
item_by p = p.ty >>= λ x. or_fault p.at kind.Type (given (is_plain x) x)

abbrev pub written_step : TyForm-F (ExprOutcome Ty) TyPart → ExprOutcome Ty
written_step y.Int = Ok t.Int
written_step y.Bool = Ok t.Bool
written_step y.Text = Ok t.Text
written_step (y.Pair a b) = a.ty >>= λ p. b.ty >>= λ q. Ok (t.Pair p q)
written_step (y.List a) = item_by a >>= λ p. Ok (t.List p)
written_step (y.Stream a) = a.ty >>= λ p. Ok (t.Stream p)
written_step (y.Cell a) = a.ty >>= λ p. Ok (t.Cell p)
written_step (y.Fun a b) = a.ty >>= λ p. b.ty >>= λ q. Ok (t.Fun p q)

abbrev pub ty_part : RawTy → TyPart
ty_part = fold-RawTy (ExprOutcome Ty) TyPart written_step (λ r. record { at = r.at; ty = r.form })

-- a written type, or its first fault
abbrev pub type_written : RawTy → ExprOutcome Ty
type_written r = (ty_part r).ty

-- the empty list of items of a written type
abbrev pub nil_type : TyPart → ExprOutcome Ty
nil_type a = item_by a >>= λ p. Ok (t.List p)

-- the type of a name at its place
abbrev pub named_type : ℕ → Text → List Named → ExprOutcome Ty
named_type at n ns = or_fault at kind.Unknown (slice_get (types_of ns) (number_of n (names_of ns)))

-- the function value of the function of this name
abbrev pub closing : List Fun → Spot → List Part → List Named → ExprOutcome Ty
closing funs f ps ns = or_fault f.at kind.Unknown (slice_get funs (number_of f.text (fun_names funs))) >>= λ g. close_of f.at g ps ns

abbrev pub FormTyping : Type 0
FormTyping = ℕ → List Named → ExprOutcome Ty

module _ (funs : List Fun) where
  -- the typing of a form at its place
  abbrev pub typing_step : RawForm-F FormTyping Part → FormTyping
  typing_step (o.Int n) at ns = Ok t.Int
  typing_step (o.Bool b) at ns = Ok t.Bool
  typing_step (o.Text s) at ns = Ok t.Text
  typing_step (o.Name n) at ns = named_type at n ns
  typing_step (o.Neg a) at ns = part_as t.Int a ns
  typing_step (o.Not a) at ns = part_as t.Bool a ns
  typing_step (o.First a) at ns = part_by first_type a ns
  typing_step (o.Second a) at ns = part_by second_type a ns
  typing_step (o.Len a) at ns = part_by (λ x. given (has_length x) t.Int) a ns
  typing_step (o.Show a) at ns = part_as t.Int a ns >>= λ _. Ok t.Text
  typing_step (o.Let n a b) at ns = a.typing ns >>= λ x. b.typing (ns ++ (n.text, x) ∷ [])
  typing_step (o.Add a b) at ns = two_as t.Int a b ns t.Int
  typing_step (o.Sub a b) at ns = two_as t.Int a b ns t.Int
  typing_step (o.Mul a b) at ns = two_as t.Int a b ns t.Int
  typing_step (o.Div a b) at ns = two_as t.Int a b ns t.Int
  typing_step (o.Rem a b) at ns = two_as t.Int a b ns t.Int
  typing_step (o.Lt a b) at ns = two_as t.Int a b ns t.Bool
  typing_step (o.Eq a b) at ns = part_by (λ x. given (is_comparable x) x) a ns >>= λ x. part_as x b ns >>= λ _. Ok t.Bool
  typing_step (o.And a b) at ns = two_as t.Bool a b ns t.Bool
  typing_step (o.Or a b) at ns = two_as t.Bool a b ns t.Bool
  typing_step (o.Pair a b) at ns = a.typing ns >>= λ x. b.typing ns >>= λ y. Ok (t.Pair x y)
  typing_step (o.Append a b) at ns = part_by (λ x. given (is_list x) x) a ns >>= λ x. part_as x b ns
  typing_step (o.Cat a b) at ns = two_as t.Text a b ns t.Text
  typing_step (o.If c a b) at ns = part_as t.Bool c ns >>= λ _. a.typing ns >>= λ x. part_as x b ns
  typing_step (o.At a i d) at ns = part_by item_type a ns >>= λ x. part_as t.Int i ns >>= λ _. part_as x d ns
  typing_step (o.List ps) at ns = list_of at ps ns
  typing_step (o.Nil a) at ns = nil_type (ty_part a)
  typing_step (o.Close f ps) at ns = closing funs f ps ns

  -- a written expression as a part
  abbrev pub part_of : Raw → Part
  part_of = fold-Raw FormTyping Part typing_step (λ r. record { at = r.at; typing = r.form r.at })

  -- the type of a written expression, or its first fault
  abbrev pub typing : Raw → List Named → ExprOutcome Ty
  typing r = (part_of r).typing
