-- Outcomes, seen as the type that they have, or none.
use Rattle.std.proofs.Common.{◌≡◌, ℕ, Bool, true, false, List, Option, Some, None, Ok, Err, refl, ap, ◌∙◌}
use Rattle.std.specs.Prelude.{◌&&◌}
use Rattle.std.specs.Result.{result_ok}
use Rattle.frp_base.specs.declared.ty.Ty.{Ty}
use Rattle.frp_base.specs.Ty.{ty_eq}
use Rattle.frp_expr.specs.Types.{given}
use Rattle.frp_expr.specs.Typing.{has}
use Rattle.frp_expr.specs.Scope.{Named}
use Rattle.frp_expr.specs.Raw.{ExprOutcome, ◌>>=◌, or_fault, Part, part_by, part_as, two_as}
use Rattle.frp_expr.specs.declared.fault.TypeKind.{TypeKind}
use Rattle.frp_expr.specs.declared.fault.TypeKind.TheVariants as kind
use Rattle.frp_base.proofs.Booleans.{and_true}

-- one step after another, of types or none
abbrev pub next : {A B : Type 0} → Option A → (A → Option B) → Option B
next (Some a) f = f a
next None f = None

pub ok_bind : {A B : Type 0} (o : ExprOutcome A) (f : A → ExprOutcome B) → result_ok (o >>= f) ≡ next (result_ok o) (λ a. result_ok (f a))
ok_bind (Ok a) f = refl
ok_bind (Err e) f = refl

pub ok_or_fault : {A : Type 0} (at : ℕ) (k : TypeKind) (o : Option A) → result_ok (or_fault at k o) ≡ o
ok_or_fault at k (Some a) = refl
ok_or_fault at k None = refl

-- a part whose type is this, or none
pub part_ok : (right : Ty → Option Ty) (p : Part) (ns : List Named) (k : Option Ty) → result_ok (p.typing ns) ≡ k → result_ok (part_by right p ns) ≡ next k right
part_ok right p ns k e = ok_bind (p.typing ns) (λ x. or_fault p.at kind.Type (right x)) ∙ (λ i. next (e i) (λ x. ok_or_fault p.at kind.Type (right x) i))

as_has : (x : Ty) (k : Option Ty) → next k (λ y. given (ty_eq y x) x) ≡ given (has x k) x
as_has x None = refl
as_has x (Some y) = refl

pub as_ok : (x : Ty) (p : Part) (ns : List Named) (k : Option Ty) → result_ok (p.typing ns) ≡ k → result_ok (part_as x p ns) ≡ given (has x k) x
as_ok x p ns k e = part_ok (λ y. given (ty_eq y x) x) p ns k e ∙ as_has x k

pub given_next : (p : Bool) (x : Ty) (o : Option Ty) (q : Bool) (r : Ty) → o ≡ given q r → next (given p x) (λ _. o) ≡ given (p && q) r
given_next true x o q r e = e
given_next false x o q r e = refl

-- a part that has the type, and then the rest
pub as_then : (x : Ty) (p : Part) (ns : List Named) (k : Option Ty) (rest : ExprOutcome Ty) (q : Bool) (r : Ty) → result_ok (p.typing ns) ≡ k → result_ok rest ≡ given q r
    → result_ok (part_as x p ns >>= λ _. rest) ≡ given (has x k && q) r
as_then x p ns k rest q r e f = ok_bind (part_as x p ns) (λ _. rest) ∙ ap (λ o. next o (λ _. result_ok rest)) (as_ok x p ns k e) ∙ given_next (has x k) x (result_ok rest) q r f

-- a part that has the type, and then this type
pub as_so : (x : Ty) (p : Part) (ns : List Named) (k : Option Ty) (r : Ty) → result_ok (p.typing ns) ≡ k → result_ok (part_as x p ns >>= λ _. Ok r) ≡ given (has x k) r
as_so x p ns k r e = as_then x p ns k (Ok r) true r e refl ∙ ap (λ b. given b r) (and_true (has x k))

pub two_ok : (x : Ty) (a b : Part) (ns : List Named) (r : Ty) (k l : Option Ty) → result_ok (a.typing ns) ≡ k → result_ok (b.typing ns) ≡ l → result_ok (two_as x a b ns r) ≡ given (has x k && has x l) r
two_ok x a b ns r k l e f = as_then x a ns k (part_as x b ns >>= λ _. Ok r) (has x l) r e (as_so x b ns l r f)

-- a first part, and then what its type asks for
pub first_then : (right : Ty → Option Ty) (p : Part) (ns : List Named) (k : Option Ty) (rest : Ty → ExprOutcome Ty) (o : Ty → Option Ty) → result_ok (p.typing ns) ≡ k → ((x : Ty) → result_ok (rest x) ≡ o x)
    → result_ok (part_by right p ns >>= rest) ≡ next (next k right) o
first_then right p ns k rest o e f = ok_bind (part_by right p ns) rest ∙ (λ i. next (part_ok right p ns k e i) (λ x. f x i))

pub guarded : (test : Ty → Bool) (k : Option Ty) (q : Ty → Bool) (r : Ty → Ty) → next (next k (λ x. given (test x) x)) (λ x. given (q x) (r x)) ≡ next k (λ x. given (test x && q x) (r x))
guarded test None q r = refl
guarded test (Some x) q r = by_test (test x) where
  by_test : (b : Bool) → next (given b x) (λ x. given (q x) (r x)) ≡ given (b && q x) (r x)
  by_test true = refl
  by_test false = refl
