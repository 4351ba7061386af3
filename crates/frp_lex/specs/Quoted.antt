-- Texts in quotes, from the byte behind the opening quote on. The flag says that a backslash stands before the bytes.
use Rattle.std.specs.Prelude.{ℕ, ◌+◌, ◌-◌, Bool, true, false, ◌==◌, if◌then◌else◌, List, [], ◌∷◌, Option, Some, None}
use Rattle.frp_lex.specs.Bytes.{is_in_text, is_escaped}

-- how many bytes stand before the closing quote, counted on from n
abbrev pub closing_quote : Bool → ℕ → List ℕ → Option ℕ
closing_quote escaped n [] = None
closing_quote true n (b ∷ bs) = closing_quote false (n + 1) bs
closing_quote false n (b ∷ bs) = if b == 34 then Some n else closing_quote (b == 92) (n + 1) bs

-- the place of the first byte that a text cannot have, counted on from n; a backslash before such a byte is one
abbrev pub first_bad : Bool → ℕ → List ℕ → Option ℕ
first_bad escaped n [] = None
first_bad true n (b ∷ bs) = if is_escaped b then first_bad false (n + 1) bs else Some (n - 1)
first_bad false n (b ∷ bs) = if is_in_text b then first_bad (b == 92) (n + 1) bs else Some n

-- the bytes without the backslashes that stand before others
abbrev pub unescaped : Bool → List ℕ → List ℕ
unescaped escaped [] = []
unescaped true (b ∷ bs) = b ∷ unescaped false bs
unescaped false (b ∷ bs) = if b == 92 then unescaped true bs else b ∷ unescaped false bs

-- the most bytes of a text's value
abbrev pub text_most : ℕ
text_most = 1024
