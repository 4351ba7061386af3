-- What was taken of a source that tells its bytes.
use Rattle.std.proofs.Common.{◌≡◌, ℕ, ◌+◌, ◌<◌, ◌≤◌, ◌^◌, List, [], ◌∷◌, ◌++◌, Option, Some, None, length, take, refl, sym, ap, ◌∙◌, subst, length-append}
use Rattle.std.proofs.lemmas.List.{length-take-le, append-nil}
use Rattle.frp_io.specs.Outside.{Took, Ended}
use Rattle.frp_io.proofs.Bytes.{took_more}
use Rattle.frp_run.specs.Answers.{IfRead, GaveMore}

-- what was taken, with a further part that is longer than the room that was left
pub took_past : (a b c : Option (List ℕ)) (xs ys : List ℕ) (n most : ℕ) → Took a b xs → Took b c (take n ys) → n ≤ length ys → most < length xs + n → GaveMore most a c
took_past a b c xs ys n most t u l m =
    let k : length (xs ++ take n ys) ≡ length xs + n = length-append xs (take n ys) ∙ ap (λ j. length xs + j) (length-take-le n ys l) in
    record { bytes = xs ++ take n ys; taken = took_more a b c xs (take n ys) t u; more = subst (λ j. most < j) (sym k) m }

-- all that there was is what was taken, where nothing is left
pub took_all : (a b : Option (List ℕ)) (xs : List ℕ) (P : List ℕ → Type 0) → Took a b xs → Ended b → length xs ≤ 2 ^ 20 → P xs → IfRead a b P
took_all None b xs P t e l p = tt
took_all (Some left) None xs P t e l p = absurd t
took_all (Some left) (Some rest) xs P t e l p =
    let s : xs ≡ left = sym (t ∙ ap (λ r. xs ++ r) e ∙ append-nil xs) in
    (ap Some e, subst (λ ys. length ys ≤ 2 ^ 20) s l, subst P s p)
