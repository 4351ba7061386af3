-- The types of a program's functions, by number.
use Rattle.std.proofs.Common.{◌≡◌, ℕ, suc, Bool, true, false, List, [], ◌∷◌, length, refl, ap, ◌∙◌}
use Rattle.std.specs.Prelude.{◌&&◌, option_map, slice_get}
use Rattle.std.proofs.lemmas.Option.{slice_get-map}
use Rattle.frp_base.specs.declared.ty.Ty.{Ty}
use Rattle.frp_expr.specs.Values.{each_of}
use Rattle.frp_graph.specs.declared.prog.Prog.{Prog}
use Rattle.frp_graph.specs.TypedProg.{sig_of, sigs}
use Rattle.frp_base.proofs.Booleans.{and_false}

pub sig_at : (prog : Prog) (f : ℕ) → slice_get (sigs prog) f ≡ option_map sig_of (slice_get prog.funs f)
sig_at prog f = slice_get-map sig_of prog.funs f

-- as many tests as types
pub uneven : (ps : List (Ty → Bool)) (xs : List Ty) → (length ps ≡ length xs → ⊥) → each_of ps xs ≡ false
uneven [] [] h = absurd (h refl)
uneven [] (x ∷ xs) h = refl
uneven (p ∷ ps) [] h = refl
uneven (p ∷ ps) (x ∷ xs) h = ap (λ b. p x && b) (uneven ps xs (λ e. h (ap suc e))) ∙ and_false (p x)
