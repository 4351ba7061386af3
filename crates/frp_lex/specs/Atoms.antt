-- Which atoms are numbers, names and words.
use Rattle.std.specs.Prelude.{ℕ, ◌+◌, ◌-◌, ◌*◌, ◌^◌, ℤ, pos, negsuc, neg_ℤ, Bool, false, not, ◌&&◌, ◌||◌, ◌==◌, if◌then◌else◌, nat_le, nat_lt, List, [], ◌∷◌, Option, Some, None}
use Rattle.std.specs.List.{list_all}
use Rattle.std.specs.Str.{bytes_eq}
use Rattle.frp_lex.specs.Bytes.{is_lower_case, is_upper, is_letter, is_digit, is_in_name}

-- a whole number of 64 bits: from -2^63 to 2^63 - 1
abbrev pub fits_token : ℤ → Bool
fits_token (pos n) = nat_lt n (2 ^ 63)
fits_token (negsuc n) = nat_lt n (2 ^ 63)

-- the number that digits write behind those of n
abbrev pub number_from : ℕ → List ℕ → ℕ
number_from n [] = n
number_from n (b ∷ bs) = number_from (10 * n + (b - 48)) bs

abbrev pub value : List ℕ → ℕ
value = number_from 0

-- a number, where it is at most a limit
abbrev pub at_most : ℕ → ℕ → Option ℕ
at_most limit n = if nat_le n limit then Some n else None

-- digits of which the first isn't 0
abbrev pub is_plain_numeral : List ℕ → Bool
is_plain_numeral [] = false
is_plain_numeral (b ∷ bs) = not (b == 48) && list_all is_digit (b ∷ bs)

-- the whole number, where it has 64 bits
abbrev pub if_fits : ℤ → Option ℤ
if_fits z = if fits_token z then Some z else None

-- the number without a minus
unfoldable pub positive : List ℕ → Option ℤ
positive bs = if bytes_eq bs (48 ∷ []) || is_plain_numeral bs then if_fits (pos (value bs)) else None

-- the number behind a minus
unfoldable pub negative : List ℕ → Option ℤ
negative bs = if is_plain_numeral bs then if_fits (neg_ℤ (pos (value bs))) else None

-- the number that an atom is: 0, or digits of which the first isn't 0, with or without a minus before them, of 64 bits
abbrev pub atom_number : List ℕ → Option ℤ
atom_number [] = None
atom_number (b ∷ bs) = if b == 45 then negative bs else positive (b ∷ bs)

-- lower-case letters, digits and `_`, a letter first
abbrev pub is_name : List ℕ → Bool
is_name [] = false
is_name (b ∷ bs) = is_lower_case b && list_all is_in_name bs

-- the most bytes of a name
abbrev pub name_most : ℕ
name_most = 32

-- letters, an upper-case one first
abbrev pub is_word : List ℕ → Bool
is_word [] = false
is_word (b ∷ bs) = is_upper b && list_all is_letter bs
