-- What names stand for in a scope.
use Rattle.std.specs.Prelude.{ℕ, suc, ◌==◌, Bool, List, [], ◌∷◌, map, length, Option, Some, None, unwrap_or, if◌then◌else◌}
use lib.Pointwise.{pointwise}
use Rattle.frp_base.specs.declared.text.Text.{Text}
use Rattle.frp_base.specs.declared.ty.Ty.{Ty}
use Rattle.frp_expr.specs.Typing.{Sig}

abbrev pub text_eq : Text → Text → Bool
text_eq = pointwise ◌==◌

-- the position of the last entry of this name
abbrev pub or_here : Option ℕ → Bool → Option ℕ
or_here (Some i) here = Some (suc i)
or_here None here = if here then Some 0 else None

abbrev pub place_of : Text → List Text → Option ℕ
place_of x [] = None
place_of x (n ∷ ns) = or_here (place_of x ns) (text_eq n x)

-- the number that a name stands for; one past the end where there is no such name
abbrev pub number_of : Text → List Text → ℕ
number_of x ns = unwrap_or (place_of x ns) (length ns)

-- a name with its type, and a declared function with its name
abbrev pub Named : Type 0
Named = Text × Ty

abbrev pub Fun : Type 0
Fun = Text × List Ty × Ty × Ty

abbrev pub names_of : List Named → List Text
names_of = map (λ n. n.0)

abbrev pub types_of : List Named → List Ty
types_of = map (λ n. n.1)

abbrev pub fun_names : List Fun → List Text
fun_names = map (λ f. f.0)

abbrev pub sigs_of : List Fun → List Sig
sigs_of = map (λ f. record { kept = f.1; arg = f.2; result = f.3 })
