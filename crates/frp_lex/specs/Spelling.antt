-- How tokens are written: the one spelling of each, and the line that they stand on.
use Rattle.std.specs.Prelude.{ℕ, Bool, true, false, ◌&&◌, ◌||◌, if◌then◌else◌, nat_le, List, [], ◌∷◌, ◌++◌, map, length, Ok}
use Rattle.std.specs.List.{list_all}
use Rattle.std.specs.Fmt.{signed_decimal}
use Rattle.frp_base.specs.Val.{escaped}
use Rattle.frp_lex.specs.declared.token.Kind.{Kind}
use Rattle.frp_lex.specs.declared.token.Kind.TheVariants as k
use Rattle.frp_lex.specs.declared.token.Token.{Token}
use Rattle.frp_lex.specs.Gives.{LexOutcome, ◌>>=◌}
use Rattle.frp_lex.specs.Bytes.{is_in_text}
use Rattle.frp_lex.specs.Atoms.{fits_token, is_name, name_most, is_word}
use Rattle.frp_lex.specs.Quoted.{text_most}

-- the spelling of a token
abbrev pub spelled : Kind → List ℕ
spelled k.Left = 40 ∷ []
spelled k.Right = 41 ∷ []
spelled (k.Name t) = t
spelled (k.Word t) = t
spelled (k.Num z) = signed_decimal z
spelled (k.Str t) = 34 ∷ escaped t ++ 34 ∷ []

abbrev pub is_left : Kind → Bool
is_left k.Left = true
is_left _ = false

abbrev pub is_right : Kind → Bool
is_right k.Right = true
is_right _ = false

-- nothing stands after `(` and before `)`
abbrev pub are_tight : Kind → Kind → Bool
are_tight t u = is_left t || is_right u

-- what stands between two other tokens is a space
abbrev pub gap : Kind → Kind → List ℕ
gap t u = if are_tight t u then [] else 32 ∷ []

-- what follows a token
abbrev pub spelled_after : Kind → List Kind → List ℕ
spelled_after t [] = []
spelled_after t (u ∷ us) = gap t u ++ spelled u ++ spelled_after u us

-- tokens on one line
abbrev pub spelling : List Kind → List ℕ
spelling [] = []
spelling (t ∷ ts) = spelled t ++ spelled_after t ts

abbrev pub kind_of : Token → Kind
kind_of t = t.kind

-- tokens without their places
abbrev pub kinds : List Token → List Kind
kinds = map kind_of

abbrev pub kinds_read : LexOutcome (List Token) → LexOutcome (List Kind)
kinds_read outcome = outcome >>= λ ts. Ok (kinds ts)

-- what a token of some input can be
abbrev pub is_lawful_token : Kind → Bool
is_lawful_token k.Left = true
is_lawful_token k.Right = true
is_lawful_token (k.Name t) = is_name t && nat_le (length t) name_most
is_lawful_token (k.Word t) = is_word t
is_lawful_token (k.Num z) = fits_token z
is_lawful_token (k.Str t) = list_all is_in_text t && nat_le (length t) text_most

abbrev pub are_lawful : List Kind → Bool
are_lawful = list_all is_lawful_token
