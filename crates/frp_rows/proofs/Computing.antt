-- Equations by which expressions, values and types compute.
use Rattle.std.proofs.Common.{◌≡◌, ℕ, ℤ, Bool, true, false, List, [], map, Option, Some, None, pos, negsuc, refl, sym, ap, ◌∙◌, rules}
use Rattle.std.specs.Prelude.{◌+ℤ◌, ◌*ℤ◌, ◌-ℤ◌, ◌&&◌, int_lt, nat_lt, ◌^◌, slice_get, slice_index_or, if◌then◌else◌}
use Rattle.std.specs.Int.{int_wrap, w64}
use Rattle.std.proofs.lemmas.Int.{int_wrap_fits}
use Rattle.std.proofs.lemmas.Bool.Decides.{nat_tests}
use Rattle.frp_base.specs.declared.name.Name.{Name}
use Rattle.frp_base.specs.declared.ty.Ty.{Ty, out-Ty, roll-Ty, out-roll-Ty}
use Rattle.frp_base.specs.declared.ty.Ty.TheOpen.{Ty-F}
use Rattle.frp_base.specs.declared.ty.Ty.TheOpen as u
use Rattle.frp_base.specs.declared.ty.Ty.TheVariants as t
use Rattle.frp_base.specs.declared.ty.Ty.TheFolds.{fold-Ty, fold-roll-Ty, map-Ty}
use Rattle.frp_base.specs.declared.val.Val.{Val, out-Val, roll-Val, out-roll-Val}
use Rattle.frp_base.specs.declared.val.Val.TheOpen.{Val-F}
use Rattle.frp_base.specs.declared.val.Val.TheOpen as o
use Rattle.frp_base.specs.declared.val.Val.TheVariants as v
use Rattle.frp_base.specs.declared.val.Val.TheFolds.{fold-roll-Val, map-Val}
use Rattle.frp_base.specs.Ty.{ty_eq}
use Rattle.frp_base.proofs.TyLemmas.{ty_decides, out_stream, out_cell, ty_eq-same}
use Rattle.frp_expr.specs.declared.expr.Expr.{Expr, roll-Expr}
use Rattle.frp_expr.specs.declared.expr.Expr.TheOpen.{Expr-F}
use Rattle.frp_expr.specs.declared.expr.Expr.TheOpen as e
use Rattle.frp_expr.specs.declared.expr.Expr.TheVariants as ex
use Rattle.frp_expr.specs.declared.expr.Expr.TheFolds.{fold-roll-Expr, map-Expr}
use Rattle.frp_expr.specs.Eval.{Meaning, each_value, eval, eval_step}
use Rattle.frp_expr.specs.Parts.{zero_val, int_of, bool_of, first_of, second_of}
use Rattle.frp_expr.specs.Operators.{wrapped}
use Rattle.frp_expr.specs.Typing.{Sig, Kind, ◌>>=◌, has, each_has, list_kind, type_step, type_in}
use Rattle.frp_expr.specs.Uses.{Noting, note, noting_step, noting, uses}
use Rattle.frp_expr.specs.Values.{is_of, is_of_step}
use Rattle.frp_expr.specs.Types.{fits, given, first_type, second_type, kind_step}

-- Types and values, looked at.

ty_out : (x : Ty) (l : Ty-F Ty) → roll-Ty l ≡ x → out-Ty x ≡ l
ty_out x l e = ap out-Ty (sym e) ∙ out-roll-Ty l

pub out-ty-int : out-Ty t.Int ≡ u.Int
out-ty-int = ty_out t.Int u.Int t.rolls-Int

pub out-ty-list : (a : Ty) → out-Ty (t.List a) ≡ u.List a
out-ty-list a = ty_out (t.List a) (u.List a) (t.rolls-List a)

pub out-ty-pair : (a b : Ty) → out-Ty (t.Pair a b) ≡ u.Pair a b
out-ty-pair a b = ty_out (t.Pair a b) (u.Pair a b) (t.rolls-Pair a b)

pub out-ty-fun : (a b : Ty) → out-Ty (t.Fun a b) ≡ u.Fun a b
out-ty-fun a b = ty_out (t.Fun a b) (u.Fun a b) (t.rolls-Fun a b)

pub out-ty-option : (a : Ty) → out-Ty (t.Option a) ≡ u.Option a
out-ty-option a = ty_out (t.Option a) (u.Option a) (t.rolls-Option a)

val_out : (x : Val) (l : Val-F Val) → roll-Val l ≡ x → out-Val x ≡ l
val_out x l e = ap out-Val (sym e) ∙ out-roll-Val l

pub out-int : (z : ℤ) → out-Val (v.Int z) ≡ o.Int z
out-int z = val_out (v.Int z) (o.Int z) (v.rolls-Int z)

pub out-bool : (b : Bool) → out-Val (v.Bool b) ≡ o.Bool b
out-bool b = val_out (v.Bool b) (o.Bool b) (v.rolls-Bool b)

pub out-pair : (x y : Val) → out-Val (v.Pair x y) ≡ o.Pair x y
out-pair x y = val_out (v.Pair x y) (o.Pair x y) (v.rolls-Pair x y)

pub out-list : (xs : List Val) → out-Val (v.List xs) ≡ o.List xs
out-list xs = val_out (v.List xs) (o.List xs) (v.rolls-List xs)

pub out-stream : (n : Name) → out-Val (v.Stream n) ≡ o.Stream n
out-stream n = val_out (v.Stream n) (o.Stream n) (v.rolls-Stream n)

pub out-cell : (n : Name) → out-Val (v.Cell n) ≡ o.Cell n
out-cell n = val_out (v.Cell n) (o.Cell n) (v.rolls-Cell n)

pub out-fun : (f : ℕ) (kept : List Val) → out-Val (v.Fun f kept) ≡ o.Fun f kept
out-fun f kept = val_out (v.Fun f kept) (o.Fun f kept) (v.rolls-Fun f kept)

pub out-absent : out-Val v.Absent ≡ o.Absent
out-absent = val_out v.Absent o.Absent v.rolls-Absent

pub out-present : (a : Val) → out-Val (v.Present a) ≡ o.Present a
out-present a = val_out (v.Present a) (o.Present a) (v.rolls-Present a)

-- Values of a type.

module _ (node_type : Name → Option Ty) (sigs : List Sig) where
  of_out : (w : Val) (l : Val-F Val) (x : Ty) → roll-Val l ≡ w → is_of node_type sigs w x ≡ is_of_step node_type sigs (map-Val Val (Ty → Bool) (is_of node_type sigs) l) x (out-Ty x)
  of_out w l x e = ap (λ (w : Val). is_of node_type sigs w x) (sym e) ∙ ap (λ (f : Ty → Bool). f x) (fold-roll-Val (Ty → Bool) (λ v x. is_of_step node_type sigs v x (out-Ty x)) l)

  pub of-int : (z : ℤ) (x : Ty) → is_of node_type sigs (v.Int z) x ≡ is_of_step node_type sigs (o.Int z) x (out-Ty x)
  of-int z x = of_out (v.Int z) (o.Int z) x (v.rolls-Int z)

  pub of-bool : (b : Bool) (x : Ty) → is_of node_type sigs (v.Bool b) x ≡ is_of_step node_type sigs (o.Bool b) x (out-Ty x)
  of-bool b x = of_out (v.Bool b) (o.Bool b) x (v.rolls-Bool b)

  pub of-pair : (a b : Val) (x : Ty) → is_of node_type sigs (v.Pair a b) x ≡ is_of_step node_type sigs (o.Pair (is_of node_type sigs a) (is_of node_type sigs b)) x (out-Ty x)
  of-pair a b x = of_out (v.Pair a b) (o.Pair a b) x (v.rolls-Pair a b)

  pub of-list : (xs : List Val) (x : Ty) → is_of node_type sigs (v.List xs) x ≡ is_of_step node_type sigs (o.List (map (is_of node_type sigs) xs)) x (out-Ty x)
  of-list xs x = of_out (v.List xs) (o.List xs) x (v.rolls-List xs)

  pub of-stream : (n : Name) (x : Ty) → is_of node_type sigs (v.Stream n) x ≡ is_of_step node_type sigs (o.Stream n) x (out-Ty x)
  of-stream n x = of_out (v.Stream n) (o.Stream n) x (v.rolls-Stream n)

  pub of-cell : (n : Name) (x : Ty) → is_of node_type sigs (v.Cell n) x ≡ is_of_step node_type sigs (o.Cell n) x (out-Ty x)
  of-cell n x = of_out (v.Cell n) (o.Cell n) x (v.rolls-Cell n)

  pub of-fun : (f : ℕ) (xs : List Val) (x : Ty) → is_of node_type sigs (v.Fun f xs) x ≡ is_of_step node_type sigs (o.Fun f (map (is_of node_type sigs) xs)) x (out-Ty x)
  of-fun f xs x = of_out (v.Fun f xs) (o.Fun f xs) x (v.rolls-Fun f xs)

  pub of-absent : (x : Ty) → is_of node_type sigs v.Absent x ≡ is_of_step node_type sigs o.Absent x (out-Ty x)
  of-absent x = of_out v.Absent o.Absent x v.rolls-Absent

  pub of-present : (a : Val) (x : Ty) → is_of node_type sigs (v.Present a) x ≡ is_of_step node_type sigs (o.Present (is_of node_type sigs a)) x (out-Ty x)
  of-present a x = of_out (v.Present a) (o.Present a) x (v.rolls-Present a)

-- Expressions.

eval_out : (x : Expr) (l : Expr-F Expr) (vs : List Val) → roll-Expr l ≡ x → eval x vs ≡ eval_step (map-Expr Expr Meaning eval l) vs
eval_out x l vs e = ap (λ (x : Expr). eval x vs) (sym e) ∙ ap (λ (f : Meaning). f vs) (fold-roll-Expr Meaning eval_step l)

pub eval-int : (z : ℤ) (vs : List Val) → eval (ex.Int z) vs ≡ v.Int z
eval-int z vs = eval_out (ex.Int z) (e.Int z) vs (ex.rolls-Int z)

pub eval-var : (i : ℕ) (vs : List Val) → eval (ex.Var i) vs ≡ slice_index_or vs i zero_val
eval-var i vs = eval_out (ex.Var i) (e.Var i) vs (ex.rolls-Var i)

pub eval-first : (a : Expr) (vs : List Val) → eval (ex.First a) vs ≡ first_of (eval a vs)
eval-first a vs = eval_out (ex.First a) (e.First a) vs (ex.rolls-First a)

pub eval-second : (a : Expr) (vs : List Val) → eval (ex.Second a) vs ≡ second_of (eval a vs)
eval-second a vs = eval_out (ex.Second a) (e.Second a) vs (ex.rolls-Second a)

pub eval-add : (a b : Expr) (vs : List Val) → eval (ex.Add a b) vs ≡ v.Int (wrapped (int_of (eval a vs) +ℤ int_of (eval b vs)))
eval-add a b vs = eval_out (ex.Add a b) (e.Add a b) vs (ex.rolls-Add a b)

pub eval-sub : (a b : Expr) (vs : List Val) → eval (ex.Sub a b) vs ≡ v.Int (wrapped (int_of (eval a vs) -ℤ int_of (eval b vs)))
eval-sub a b vs = eval_out (ex.Sub a b) (e.Sub a b) vs (ex.rolls-Sub a b)

pub eval-mul : (a b : Expr) (vs : List Val) → eval (ex.Mul a b) vs ≡ v.Int (wrapped (int_of (eval a vs) *ℤ int_of (eval b vs)))
eval-mul a b vs = eval_out (ex.Mul a b) (e.Mul a b) vs (ex.rolls-Mul a b)

pub eval-lt : (a b : Expr) (vs : List Val) → eval (ex.Lt a b) vs ≡ v.Bool (int_lt (int_of (eval a vs)) (int_of (eval b vs)))
eval-lt a b vs = eval_out (ex.Lt a b) (e.Lt a b) vs (ex.rolls-Lt a b)

pub eval-if : (c a b : Expr) (vs : List Val) → eval (ex.If c a b) vs ≡ if bool_of (eval c vs) then eval a vs else eval b vs
eval-if c a b vs = eval_out (ex.If c a b) (e.If c a b) vs (ex.rolls-If c a b)

pub eval-list : (xs : List Expr) (vs : List Val) → eval (ex.List xs) vs ≡ v.List (each_value (map eval xs) vs)
eval-list xs vs = eval_out (ex.List xs) (e.List xs) vs (ex.rolls-List xs)

pub eval-close : (f : ℕ) (xs : List Expr) (vs : List Val) → eval (ex.Close f xs) vs ≡ v.Fun f (each_value (map eval xs) vs)
eval-close f xs vs = eval_out (ex.Close f xs) (e.Close f xs) vs (ex.rolls-Close f xs)

-- Types of expressions.

module _ (sigs : List Sig) where
  type_out : (x : Expr) (l : Expr-F Expr) (ts : List Ty) → roll-Expr l ≡ x → type_in sigs x ts ≡ type_step sigs (map-Expr Expr Kind (type_in sigs) l) ts
  type_out x l ts e = ap (λ (x : Expr). type_in sigs x ts) (sym e) ∙ ap (λ (f : Kind). f ts) (fold-roll-Expr Kind (type_step sigs) l)

  pub type-int : (z : ℤ) (ts : List Ty) → type_in sigs (ex.Int z) ts ≡ given (fits z) t.Int
  type-int z ts = type_out (ex.Int z) (e.Int z) ts (ex.rolls-Int z)

  pub type-var : (i : ℕ) (ts : List Ty) → type_in sigs (ex.Var i) ts ≡ slice_get ts i
  type-var i ts = type_out (ex.Var i) (e.Var i) ts (ex.rolls-Var i)

  pub type-first : (a : Expr) (ts : List Ty) → type_in sigs (ex.First a) ts ≡ (type_in sigs a ts >>= first_type)
  type-first a ts = type_out (ex.First a) (e.First a) ts (ex.rolls-First a)

  pub type-second : (a : Expr) (ts : List Ty) → type_in sigs (ex.Second a) ts ≡ (type_in sigs a ts >>= second_type)
  type-second a ts = type_out (ex.Second a) (e.Second a) ts (ex.rolls-Second a)

  pub type-add : (a b : Expr) (ts : List Ty) → type_in sigs (ex.Add a b) ts ≡ given (has t.Int (type_in sigs a ts) && has t.Int (type_in sigs b ts)) t.Int
  type-add a b ts = type_out (ex.Add a b) (e.Add a b) ts (ex.rolls-Add a b)

  pub type-sub : (a b : Expr) (ts : List Ty) → type_in sigs (ex.Sub a b) ts ≡ given (has t.Int (type_in sigs a ts) && has t.Int (type_in sigs b ts)) t.Int
  type-sub a b ts = type_out (ex.Sub a b) (e.Sub a b) ts (ex.rolls-Sub a b)

  pub type-mul : (a b : Expr) (ts : List Ty) → type_in sigs (ex.Mul a b) ts ≡ given (has t.Int (type_in sigs a ts) && has t.Int (type_in sigs b ts)) t.Int
  type-mul a b ts = type_out (ex.Mul a b) (e.Mul a b) ts (ex.rolls-Mul a b)

  pub type-lt : (a b : Expr) (ts : List Ty) → type_in sigs (ex.Lt a b) ts ≡ given (has t.Int (type_in sigs a ts) && has t.Int (type_in sigs b ts)) t.Bool
  type-lt a b ts = type_out (ex.Lt a b) (e.Lt a b) ts (ex.rolls-Lt a b)

  pub type-if : (c a b : Expr) (ts : List Ty) → type_in sigs (ex.If c a b) ts ≡ (type_in sigs a ts >>= λ x. given (has t.Bool (type_in sigs c ts) && has x (type_in sigs b ts)) x)
  type-if c a b ts = type_out (ex.If c a b) (e.If c a b) ts (ex.rolls-If c a b)

  pub type-list : (xs : List Expr) (ts : List Ty) → type_in sigs (ex.List xs) ts ≡ list_kind (map (type_in sigs) xs) ts
  type-list xs ts = type_out (ex.List xs) (e.List xs) ts (ex.rolls-List xs)

  pub type-close : (f : ℕ) (xs : List Expr) (ts : List Ty) → type_in sigs (ex.Close f xs) ts ≡ (slice_get sigs f >>= λ s. given (each_has s.kept (map (type_in sigs) xs) ts) (t.Fun s.arg s.result))
  type-close f xs ts = type_out (ex.Close f xs) (e.Close f xs) ts (ex.rolls-Close f xs)

-- what an operand that is a variable uses
pub uses-var : (n i : ℕ) → uses n (ex.Var i) ≡ note n [] i
uses-var n i = ap (λ (x : Expr). noting n x []) (sym (ex.rolls-Var i)) ∙ ap (λ (f : Noting). f []) (fold-roll-Expr Noting (noting_step n) (e.Var i))

kind_out : (x : Ty) (l : Ty-F Ty) → roll-Ty l ≡ x → fold-Ty (Bool × Bool) kind_step x ≡ kind_step (map-Ty Ty (Bool × Bool) (fold-Ty (Bool × Bool) kind_step) l)
kind_out x l e = ap (fold-Ty (Bool × Bool) kind_step) (sym e) ∙ fold-roll-Ty (Bool × Bool) kind_step l

pub is-type-int : (fold-Ty (Bool × Bool) kind_step t.Int).0 ≡ true
is-type-int = ap (λ (p : Bool × Bool). p.0) (kind_out t.Int u.Int t.rolls-Int)

pub is-plain-int : (fold-Ty (Bool × Bool) kind_step t.Int).1 ≡ true
is-plain-int = ap (λ (p : Bool × Bool). p.1) (kind_out t.Int u.Int t.rolls-Int)

pub is-type-pair : (a b : Ty) → (fold-Ty (Bool × Bool) kind_step (t.Pair a b)).0 ≡ ((fold-Ty (Bool × Bool) kind_step a).0 && (fold-Ty (Bool × Bool) kind_step b).0)
is-type-pair a b = ap (λ (p : Bool × Bool). p.0) (kind_out (t.Pair a b) (u.Pair a b) (t.rolls-Pair a b))

pub is-plain-pair : (a b : Ty) → (fold-Ty (Bool × Bool) kind_step (t.Pair a b)).1 ≡ ((fold-Ty (Bool × Bool) kind_step a).1 && (fold-Ty (Bool × Bool) kind_step b).1)
is-plain-pair a b = ap (λ (p : Bool × Bool). p.1) (kind_out (t.Pair a b) (u.Pair a b) (t.rolls-Pair a b))

pub is-type-list : (a : Ty) → (fold-Ty (Bool × Bool) kind_step (t.List a)).0 ≡ (fold-Ty (Bool × Bool) kind_step a).1
is-type-list a = ap (λ (p : Bool × Bool). p.0) (kind_out (t.List a) (u.List a) (t.rolls-List a))

pub is-plain-list : (a : Ty) → (fold-Ty (Bool × Bool) kind_step (t.List a)).1 ≡ false
is-plain-list a = ap (λ (p : Bool × Bool). p.1) (kind_out (t.List a) (u.List a) (t.rolls-List a))

pub is-type-stream : (a : Ty) → (fold-Ty (Bool × Bool) kind_step (t.Stream a)).0 ≡ (fold-Ty (Bool × Bool) kind_step a).0
is-type-stream a = ap (λ (p : Bool × Bool). p.0) (kind_out (t.Stream a) (u.Stream a) (t.rolls-Stream a))

pub is-plain-stream : (a : Ty) → (fold-Ty (Bool × Bool) kind_step (t.Stream a)).1 ≡ false
is-plain-stream a = ap (λ (p : Bool × Bool). p.1) (kind_out (t.Stream a) (u.Stream a) (t.rolls-Stream a))

pub is-type-cell : (a : Ty) → (fold-Ty (Bool × Bool) kind_step (t.Cell a)).0 ≡ (fold-Ty (Bool × Bool) kind_step a).0
is-type-cell a = ap (λ (p : Bool × Bool). p.0) (kind_out (t.Cell a) (u.Cell a) (t.rolls-Cell a))

pub is-plain-cell : (a : Ty) → (fold-Ty (Bool × Bool) kind_step (t.Cell a)).1 ≡ false
is-plain-cell a = ap (λ (p : Bool × Bool). p.1) (kind_out (t.Cell a) (u.Cell a) (t.rolls-Cell a))

pub is-type-fun : (a b : Ty) → (fold-Ty (Bool × Bool) kind_step (t.Fun a b)).0 ≡ ((fold-Ty (Bool × Bool) kind_step a).0 && (fold-Ty (Bool × Bool) kind_step b).0)
is-type-fun a b = ap (λ (p : Bool × Bool). p.0) (kind_out (t.Fun a b) (u.Fun a b) (t.rolls-Fun a b))

pub is-type-option : (a : Ty) → (fold-Ty (Bool × Bool) kind_step (t.Option a)).0 ≡ (fold-Ty (Bool × Bool) kind_step a).0
is-type-option a = ap (λ (p : Bool × Bool). p.0) (kind_out (t.Option a) (u.Option a) (t.rolls-Option a))

pub is-plain-option : (a : Ty) → (fold-Ty (Bool × Bool) kind_step (t.Option a)).1 ≡ (fold-Ty (Bool × Bool) kind_step a).1
is-plain-option a = ap (λ (p : Bool × Bool). p.1) (kind_out (t.Option a) (u.Option a) (t.rolls-Option a))

-- a number that fits wraps to itself
wrap_by : (b : Bool) (n : ℕ) → nat_lt n (2 ^ 63) ≡ b → int_wrap w64 (pos n) ≡ (if b then pos n else int_wrap w64 (pos n))
wrap_by true n e = int_wrap_fits w64 (pos n) (search (rules, nat_tests))
wrap_by false n e = refl

pub wrap-pos : (n : ℕ) → int_wrap w64 (pos n) ≡ (if nat_lt n (2 ^ 63) then pos n else int_wrap w64 (pos n))
wrap-pos n = wrap_by (nat_lt n (2 ^ 63)) n refl

-- and so does one below 0
wrap_below_by : (b : Bool) (n : ℕ) → nat_lt n (2 ^ 63) ≡ b → int_wrap w64 (negsuc n) ≡ (if b then negsuc n else int_wrap w64 (negsuc n))
wrap_below_by true n e = int_wrap_fits w64 (negsuc n) (search (rules, nat_tests))
wrap_below_by false n e = refl

pub wrap-below : (n : ℕ) → int_wrap w64 (negsuc n) ≡ (if nat_lt n (2 ^ 63) then negsuc n else int_wrap w64 (negsuc n))
wrap-below n = wrap_below_by (nat_lt n (2 ^ 63)) n refl

pub ruleset computing = (
  out-ty-int,
  out-ty-list,
  out-ty-pair,
  out_stream,
  out_cell,
  out-ty-fun,
  out-ty-option,
  ty_eq-same,
  out-int,
  out-bool,
  out-pair,
  out-list,
  out-stream,
  out-cell,
  out-fun,
  out-absent,
  out-present,
  of-int,
  of-bool,
  of-pair,
  of-list,
  of-stream,
  of-cell,
  of-fun,
  of-absent,
  of-present,
  eval-int,
  eval-var,
  eval-first,
  eval-second,
  eval-add,
  eval-sub,
  eval-mul,
  eval-lt,
  eval-if,
  eval-list,
  eval-close,
  wrap-pos,
  wrap-below,
)

-- the same for types
pub ruleset typing = (
  computing,
  type-int,
  type-var,
  type-first,
  type-second,
  type-add,
  type-sub,
  type-mul,
  type-lt,
  type-if,
  type-list,
  type-close,
  uses-var,
  is-type-int,
  is-plain-int,
  is-type-pair,
  is-plain-pair,
  is-type-list,
  is-plain-list,
  is-type-stream,
  is-plain-stream,
  is-type-cell,
  is-plain-cell,
  is-type-fun,
  is-type-option,
  is-plain-option,
)

-- Occurrences that differ.

pub same_num : (a b : ℕ) → ◌≡◌ {A = Option Val} (Some (v.Int (pos a))) (Some (v.Int (pos b))) → a ≡ b
same_num a b h = cc

pub none_num : (a : ℕ) → ◌≡◌ {A = Option Val} (Some (v.Int (pos a))) None → ⊥
none_num a h = cc

pub false_true : ◌≡◌ {A = Bool} false true → ⊥
false_true h = cc
