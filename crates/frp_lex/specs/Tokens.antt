-- The tokens of bytes, or their first fault.
use Rattle.std.specs.Prelude.{ℕ, zero, suc, ◌+◌, ◌-◌, ℤ, ◌||◌, ◌==◌, if◌then◌else◌, nat_le, List, [], ◌∷◌, ◌++◌, length, take, slice_index, false, Option, Some, None, Ok}
use Rattle.std.specs.List.{prefix_len}
use Rattle.frp_lex.specs.declared.fault.LexKind.TheVariants as fault_kind
use Rattle.frp_lex.specs.declared.token.Kind.{Kind}
use Rattle.frp_lex.specs.declared.token.Kind.TheVariants as k
use Rattle.frp_lex.specs.declared.token.Token.{Token}
use Rattle.frp_lex.specs.Gives.{LexOutcome, ◌>>=◌, lex_fault}
use Rattle.frp_lex.specs.Bytes.{is_blank, is_digit, is_in_atom, is_in_comment}
use Rattle.frp_lex.specs.Atoms.{atom_number, is_name, name_most, is_word}
use Rattle.frp_lex.specs.Quoted.{closing_quote, first_bad, unescaped, text_most}

-- What stands at the front of bytes: a token's kind, or none where it is a blank or a comment, and how many bytes it has.
abbrev pub Piece : Type 0
Piece = Option Kind × ℕ

-- ---- atoms

abbrev pub number_or_fault : ℕ → Option ℤ → LexOutcome Kind
number_or_fault at None = lex_fault at fault_kind.Number
number_or_fault at (Some z) = Ok (k.Num z)

-- what an atom at this place is; the first argument is its first byte
unfoldable pub atom_from : ℕ → ℕ → List ℕ → LexOutcome Kind
atom_from b at bs =
    if is_digit b || b == 45 then number_or_fault at (atom_number bs)
    else if is_name bs then (if nat_le (length bs) name_most then Ok (k.Name bs) else lex_fault at fault_kind.LongName)
    else if is_word bs then Ok (k.Word bs)
    else lex_fault at fault_kind.Name

abbrev pub atom : ℕ → List ℕ → LexOutcome Kind
atom at bs = atom_from (slice_index bs 0) at bs

-- the atom that is the longest run of its bytes
abbrev pub atom_piece : ℕ → List ℕ → LexOutcome Piece
atom_piece at bs = do
  kind ← atom at bs
  Ok (Some kind, length bs)

-- ---- texts

-- a text with these bytes between its quotes, in which the first bad byte is this
abbrev pub text_inside : ℕ → List ℕ → Option ℕ → LexOutcome Piece
text_inside at bs (Some bad) = lex_fault (at + 1 + bad) fault_kind.Byte
text_inside at bs None =
    if nat_le (length (unescaped false bs)) text_most then Ok (Some (k.Str (unescaped false bs)), length bs + 2) else lex_fault at fault_kind.LongText

-- the text that closes after this many of the bytes
abbrev pub text_closed : ℕ → List ℕ → Option ℕ → LexOutcome Piece
text_closed at bs None = lex_fault at fault_kind.Unclosed
text_closed at bs (Some n) = text_inside at (take n bs) (first_bad false 0 (take n bs))

-- the text whose opening quote stands at this place, before these bytes
unfoldable pub text : ℕ → List ℕ → LexOutcome Piece
text at bs = text_closed at bs (closing_quote false 0 bs)

-- ---- tokens

-- what stands at the front of b ∷ bs, at this place
unfoldable pub front : ℕ → ℕ → List ℕ → LexOutcome Piece
front at b bs =
    if is_blank b then Ok (None, 1)
    else if b == 59 then Ok (None, 1 + prefix_len is_in_comment bs)
    else if b == 40 then Ok (Some k.Left, 1)
    else if b == 41 then Ok (Some k.Right, 1)
    else if b == 34 then text at bs
    else if is_in_atom b then atom_piece at (take (prefix_len is_in_atom (b ∷ bs)) (b ∷ bs))
    else lex_fault at fault_kind.Byte

abbrev pub token_at : ℕ → Kind → Token
token_at at kind = record { at = at; kind = kind }

-- the token of this kind at this place, where there is one, before others
abbrev pub put : ℕ → Option Kind → List Token → List Token
put at None ts = ts
put at (Some kind) ts = token_at at kind ∷ ts

-- and behind others
abbrev pub added : List Token → ℕ → Option Kind → List Token
added ts at None = ts
added ts at (Some kind) = ts ++ token_at at kind ∷ []

-- The tokens of the bytes from this place on. The first number counts the bytes that still belong to what stands before.
abbrev pub tokens_from : ℕ → ℕ → List ℕ → LexOutcome (List Token)
tokens_from left at [] = Ok []
tokens_from (suc left) at (b ∷ bs) = tokens_from left (at + 1) bs
tokens_from zero at (b ∷ bs) = do
  piece ← front at b bs
  more ← tokens_from (piece.1 - 1) (at + 1) bs
  Ok (put at piece.0 more)

-- the tokens of an input, or its first fault
unfoldable pub tokens : List ℕ → LexOutcome (List Token)
tokens = tokens_from 0 0
