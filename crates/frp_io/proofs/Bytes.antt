-- one read or write after another
use Rattle.std.proofs.Common.{◌≡◌, ℕ, ◌+◌, ◌≤◌, List, [], ◌++◌, Option, Some, None, refl, sym, ap, ◌∙◌, append_assoc, subst, rules, arith, length, take, drop}
use Rattle.std.proofs.Math.Seq.{take-add}
use Rattle.std.proofs.lemmas.List.{take-append-le, take-append-drop}
use Rattle.std.proofs.lemmas.Grind.{common_steps}
use Rattle.frp_io.specs.Outside.{Took, Gave, Ended, ZeroAtEnd}

-- taking nothing
pub took_none : (a : Option (List ℕ)) → Took a a []
took_none None = refl
took_none (Some rest) = search rules

-- taking more
pub took_more : (a b c : Option (List ℕ)) (xs ys : List ℕ) → Took a b xs → Took b c ys → Took a c (xs ++ ys)
took_more None b c xs ys p q = search rules
took_more (Some l) None c xs ys p q = search rules
took_more (Some l) (Some m) None xs ys p q = search rules
took_more (Some l) (Some m) (Some n) xs ys p q = p ∙ ap (λ zs. xs ++ zs) q ∙ sym (append_assoc xs ys n)

-- where a read takes nothing, nothing is left
pub zero_ended : (a : Option (List ℕ)) → ZeroAtEnd a 0 → Ended a
zero_ended None p = search rules
zero_ended (Some rest) p = p.0 refl

-- giving nothing
pub gave_none : (a : Option (List ℕ)) → Gave a a []
gave_none None = refl
gave_none (Some held) = search rules

-- giving more
pub gave_more : (a b c : Option (List ℕ)) (xs ys : List ℕ) → Gave a b xs → Gave b c ys → Gave a c (xs ++ ys)
gave_more None b c xs ys p q = subst (λ b. Gave b c ys) p q
gave_more (Some l) b c xs ys p q = subst (λ b. Gave b c ys) p q ∙ ap Some (append_assoc l xs ys)

-- giving a further part of a piece
pub gave_part : (a b c : Option (List ℕ)) (d n : ℕ) (xs : List ℕ) → Gave a b (take d xs) → Gave b c (take n (drop d xs)) → Gave a c (take (d + n) xs)
gave_part a b c d n xs p q = subst (Gave a c) (sym (take-add d n xs)) (gave_more a b c (take d xs) (take n (drop d xs)) p q)

-- bytes that were copied to the front of a buffer, and then the bytes that are left
pub took_copied : (n : ℕ) (rest tail : List ℕ) → n ≤ length rest → take n (take n rest ++ tail) ++ drop n rest ≡ rest
took_copied n rest tail h =
    let e : take n (take n rest ++ tail) ≡ take n rest = grind (arith, common_steps, take-append-le {A = ℕ}) in
    rw e (take-append-drop n rest)
