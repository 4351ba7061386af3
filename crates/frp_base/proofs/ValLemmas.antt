-- how the escapes of a text go over a character
use Rattle.std.proofs.Common.{◌≡◌, ℕ, ◌<◌, Bool, true, false, List, [], ◌∷◌, ◌++◌, refl, ap, ◌∙◌, append_assoc, arith}
use Rattle.std.specs.Prelude.{◌==◌}
use Rattle.std.specs.Char.{encode_utf8}
use Rattle.std.proofs.lemmas.Grind.{common_steps}
use lib.Dec.{ltb}
use lib.Utf8.{encode}
use Rattle.frp_base.specs.Val.{mark, escaped}

-- a byte above the backslash has no mark
unmarked : (b : ℕ) → 92 < b → mark b ≡ []
unmarked b h =
    let q : (b == 34) ≡ false = grind (arith, common_steps) in
    let s : (b == 92) ≡ false = grind (arith, common_steps) in
    rw (q, s) refl

plain : (b : ℕ) (rest : List ℕ) → 92 < b → escaped (b ∷ rest) ≡ b ∷ escaped rest
plain b rest h = rw (unmarked b h) refl

two : (a b : ℕ) (rest : List ℕ) → 92 < a → 92 < b → escaped (a ∷ b ∷ rest) ≡ a ∷ b ∷ escaped rest
two a b rest h k = plain a (b ∷ rest) h ∙ ap (λ xs. a ∷ xs) (plain b rest k)

three : (a b c : ℕ) (rest : List ℕ) → 92 < a → 92 < b → 92 < c → escaped (a ∷ b ∷ c ∷ rest) ≡ a ∷ b ∷ c ∷ escaped rest
three a b c rest h k l = plain a (b ∷ c ∷ rest) h ∙ ap (λ xs. a ∷ xs) (two b c rest k l)

four : (a b c d : ℕ) (rest : List ℕ) → 92 < a → 92 < b → 92 < c → 92 < d → escaped (a ∷ b ∷ c ∷ d ∷ rest) ≡ a ∷ b ∷ c ∷ d ∷ escaped rest
four a b c d rest h k l m = plain a (b ∷ c ∷ d ∷ rest) h ∙ ap (λ xs. a ∷ xs) (three b c d rest k l m)

by_length : (c : ℕ) (rest : List ℕ) (l m n : Bool) → ltb c 128 ≡ l → ltb c 2048 ≡ m → ltb c 65536 ≡ n
    → escaped (encode_utf8 c ++ rest) ≡ mark c ++ (encode_utf8 c ++ escaped rest)
unfolding encode
by_length c rest true m n p q r = rw p refl
by_length c rest false true n p q r = let h : 92 < c = grind (arith, common_steps) in rw (unmarked c h) (rw (p, q) (two _ _ rest (omega arith) (omega arith)))
by_length c rest false false true p q r = let h : 92 < c = grind (arith, common_steps) in rw (unmarked c h) (rw (p, q, r) (three _ _ _ rest (omega arith) (omega arith) (omega arith)))
by_length c rest false false false p q r = let h : 92 < c = grind (arith, common_steps) in rw (unmarked c h) (rw (p, q, r) (four _ _ _ _ rest (omega arith) (omega arith) (omega arith) (omega arith)))

-- a character is escaped by the mark before its bytes
pub escaped-encode : (c : ℕ) (rest : List ℕ) → escaped (encode_utf8 c ++ rest) ≡ mark c ++ (encode_utf8 c ++ escaped rest)
escaped-encode c rest = by_length c rest _ _ _ refl refl refl

-- what is written and what is left, after one character more
pub escaped_more : (out new rest left : List ℕ) (c : ℕ) → rest ≡ encode_utf8 c ++ left → new ≡ out ++ (mark c ++ encode_utf8 c) → new ++ escaped left ≡ out ++ escaped rest
escaped_more out new rest left c p q = rw (p, q, escaped-encode c left) (append_assoc out (mark c ++ encode_utf8 c) (escaped left) ∙ ap (λ xs. out ++ xs) (append_assoc (mark c) (encode_utf8 c) (escaped left)))
