-- Kinds of bytes.
use Rattle.std.specs.Prelude.{ℕ, Bool, not, ◌&&◌, ◌||◌, ◌==◌, nat_le}

-- space, tab, line feed and carriage return
abbrev pub is_blank : ℕ → Bool
is_blank b = b == 32 || b == 9 || b == 10 || b == 13

abbrev pub is_lower_case : ℕ → Bool
is_lower_case b = nat_le 97 b && nat_le b 122

abbrev pub is_upper : ℕ → Bool
is_upper b = nat_le 65 b && nat_le b 90

abbrev pub is_letter : ℕ → Bool
is_letter b = is_lower_case b || is_upper b

abbrev pub is_digit : ℕ → Bool
is_digit b = nat_le 48 b && nat_le b 57

-- a lower-case letter, a digit or `_`
abbrev pub is_in_name : ℕ → Bool
is_in_name b = is_lower_case b || is_digit b || b == 95

-- a letter, a digit, `_` or `-`
abbrev pub is_in_atom : ℕ → Bool
is_in_atom b = is_letter b || is_digit b || b == 95 || b == 45

-- no line feed
abbrev pub is_in_comment : ℕ → Bool
is_in_comment b = not (b == 10)

-- from the space to the tilde
abbrev pub is_in_text : ℕ → Bool
is_in_text b = nat_le 32 b && nat_le b 126

-- a quote and a backslash have a backslash before them in a text
abbrev pub is_escaped : ℕ → Bool
is_escaped b = b == 34 || b == 92
