-- What the tokens of bytes are, and the round trip between bytes and tokens.
use Rattle.std.specs.Prelude.{◌≡◌, ◌↔◌, ℕ, List, IsTrue, Ok, Err}
use Rattle.frp_lex.specs.declared.fault.Lex.{Lex}
use Rattle.frp_lex.specs.declared.token.Kind.{Kind}
use Rattle.frp_lex.specs.declared.token.Token.{Token}
use Rattle.frp_lex.specs.Gives.{LexOutcome, ◌>>=◌}
use Rattle.frp_lex.specs.Tokens.{tokens}
use Rattle.frp_lex.specs.Spelling.{spelling, kinds, kinds_read, are_lawful}
use Rattle.frp_lex.specs.Written.{IsWritten, IsWrittenUpTo}

-- bytes have these tokens exactly where they are these tokens, written
abbrev pub LexedIsWritten : Type 0
LexedIsWritten = (bs : List ℕ) (ts : List Token) → (tokens bs ≡ Ok ts) ↔ IsWritten ts bs

-- bytes have this first fault exactly where they are some tokens, written, up to it
abbrev pub FaultIsFirst : Type 0
FaultIsFirst = (bs : List ℕ) (f : Lex) → (tokens bs ≡ Err f) ↔ ((ts : List Token) × IsWrittenUpTo f ts bs)

-- the tokens of what lawful tokens are spelled are those tokens
abbrev pub SpelledIsLexed : Type 0
SpelledIsLexed = (ks : List Kind) → IsTrue (are_lawful ks) → kinds_read (tokens (spelling ks)) ≡ Ok ks

-- the tokens of bytes are lawful
abbrev pub LexedIsLawful : Type 0
LexedIsLawful = (bs : List ℕ) (ts : List Token) → tokens bs ≡ Ok ts → IsTrue (are_lawful (kinds ts))

-- and they are the tokens of the line that they are spelled on
abbrev pub LexedIsSpelled : Type 0
LexedIsSpelled = (bs : List ℕ) (ts : List Token) → tokens bs ≡ Ok ts → kinds_read (tokens (spelling (kinds ts))) ≡ Ok (kinds ts)

-- the one line of the tokens of bytes
abbrev pub canonical_line : List ℕ → LexOutcome (List ℕ)
canonical_line bs = kinds_read (tokens bs) >>= λ ks. Ok (spelling ks)

-- a canonical line is its own canonical line
abbrev pub CanonicalStays : Type 0
CanonicalStays = (bs line : List ℕ) → canonical_line bs ≡ Ok line → canonical_line line ≡ Ok line

-- lawful tokens that are spelled alike are the same
abbrev pub SpellingTells : Type 0
SpellingTells = (ks js : List Kind) → IsTrue (are_lawful ks) → IsTrue (are_lawful js) → spelling ks ≡ spelling js → ks ≡ js
