-- One line after another is tied.
use Rattle.std.proofs.Common.{◌≡◌, ℕ, zero, suc, ◌+◌, List, [], ◌∷◌, ◌++◌, map, take, drop, get_or, refl, ap, ◌∙◌, arith}
use Rattle.std.specs.Prelude.{slice_set}

set_or : {A : Type 0} (f : A → A) (xs : List A) (i : ℕ) (v : A) → v ≡ get_or (map f (take i xs) ++ drop i xs) i v
    → slice_set (map f (take i xs) ++ drop i xs) i (f v) ≡ map f (take (suc i) xs) ++ drop (suc i) xs
set_or f [] zero v e = refl
set_or f [] (suc i) v e = refl
set_or f (x ∷ xs) zero v e = ap (λ y. f y ∷ xs) e
set_or f (x ∷ xs) (suc i) v e = ap (λ ys. f x ∷ ys) (set_or f xs i v e)

pub set_next : {A : Type 0} (f : A → A) (xs items : List A) (i : ℕ) (v new : A) → items ≡ map f (take i xs) ++ drop i xs → v ≡ get_or items i v → new ≡ f v
    → slice_set items i new ≡ map f (take (i + 1) xs) ++ drop (i + 1) xs
set_next f xs items i v new q e n =
    let s : suc i ≡ i + 1 = omega arith in
    ap (slice_set items i) n ∙ ap (λ ys. slice_set ys i (f v)) q ∙ set_or f xs i v (e ∙ ap (λ ys. get_or ys i v) q) ∙ ap (λ j. map f (take j xs) ++ drop j xs) s
