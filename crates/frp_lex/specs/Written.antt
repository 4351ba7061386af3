-- Bytes that are written tokens: each token in its one spelling, and blanks and comments between them; and bytes that are so up to
-- a fault.
use Rattle.std.specs.Prelude.{◌≡◌, ℕ, ◌+◌, Bool, true, false, not, ◌==◌, if◌then◌else◌, List, [], ◌∷◌, ◌++◌, length, Option, Some, None, IsTrue, is_some, Err}
use Rattle.frp_lex.specs.declared.fault.Lex.{Lex}
use Rattle.frp_lex.specs.declared.token.Kind.{Kind}
use Rattle.frp_lex.specs.declared.token.Kind.TheVariants as k
use Rattle.frp_lex.specs.declared.token.Token.{Token}
use Rattle.frp_lex.specs.Bytes.{is_blank, is_in_atom}
use Rattle.frp_lex.specs.Tokens.{front}
use Rattle.frp_lex.specs.Spelling.{spelled, is_lawful_token}

-- Whether a comment goes on behind these bytes, or none where they are not all blanks and comments. The flag says whether one
-- goes on before them.
abbrev pub comment_after : Bool → List ℕ → Option Bool
comment_after comment [] = Some comment
comment_after true (b ∷ bs) = comment_after (not (b == 10)) bs
comment_after false (b ∷ bs) = if b == 59 then comment_after true bs else if is_blank b then comment_after false bs else None

-- blanks and comments, up to the end of the input
abbrev pub IsLastGap : List ℕ → Type 0
IsLastGap bs = IsTrue (is_some (comment_after false bs))

-- blanks and comments, each comment with its line feed
abbrev pub IsGap : List ℕ → Type 0
IsGap bs = comment_after false bs ≡ Some false

-- the first of these bytes, where there is one, is no byte of an atom
abbrev pub ends_atom : List ℕ → Bool
ends_atom [] = true
ends_atom (b ∷ bs) = not (is_in_atom b)

-- a number, a name and a word end where no byte of an atom follows; other tokens need nothing between them and the next
abbrev pub is_parted : Kind → List ℕ → Bool
is_parted (k.Name t) rest = ends_atom rest
is_parted (k.Word t) rest = ends_atom rest
is_parted (k.Num z) rest = ends_atom rest
is_parted _ rest = true

-- The bytes, the first of which has this place, are a gap, a token at its place, and then what `Then` says of the rest.
pub record BeginsWith (Then : ℕ → List ℕ → Type 0) (at : ℕ) (t : Token) (bs : List ℕ) : Type 0 where
  pub before : List ℕ
  pub rest : List ℕ
  pub parts : bs ≡ before ++ (spelled t.kind ++ rest)
  pub gap : IsGap before
  pub place : t.at ≡ at + length before
  pub lawful : IsTrue (is_lawful_token t.kind)
  pub parted : IsTrue (is_parted t.kind rest)
  pub more : Then (t.at + length (spelled t.kind)) rest

-- the bytes, the first of which has this place, are these tokens, and then what `Last` says of the rest
abbrev pub AreTokens : (ℕ → List ℕ → Type 0) → ℕ → List Token → List ℕ → Type 0
AreTokens Last at [] bs = Last at bs
AreTokens Last at (t ∷ ts) bs = BeginsWith (λ at rest. AreTokens Last at ts rest) at t bs

-- An input is these tokens.
abbrev pub IsWritten : List Token → List ℕ → Type 0
IsWritten = AreTokens (λ at rest. IsLastGap rest) 0

-- The bytes, the first of which has this place, are a gap and then something that is at fault.
pub record IsFaulty (f : Lex) (at : ℕ) (bs : List ℕ) : Type 0 where
  pub before : List ℕ
  pub b : ℕ
  pub rest : List ℕ
  pub parts : bs ≡ before ++ b ∷ rest
  pub gap : IsGap before
  pub fault : front (at + length before) b rest ≡ Err f

-- An input is these tokens up to this fault.
abbrev pub IsWrittenUpTo : Lex → List Token → List ℕ → Type 0
IsWrittenUpTo f = AreTokens (IsFaulty f) 0
