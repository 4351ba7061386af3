-- Which words are a command line, and what it asks for: a mode, then uses of options in any order, each option at most
-- once, and last perhaps the word `--`.
use Rattle.std.specs.Prelude.{ℕ, ℤ, pos, negsuc, ◌≡◌, ◌⊎◌, ◌&&◌, Bool, if◌then◌else◌, nat_le, nat_lt, List, [], ◌∷◌, ◌++◌, length, Option, Some, None, codes}
use Rattle.std.specs.List.{AllByRecursion, flat_map}
use Rattle.std.specs.Str.{bytes_eq, all_ascii_digits}
use Rattle.std.specs.Str.Parse.{without_leading_sign, signed_digits_value}
use Rattle.frp_words.specs.declared.command.Mode.{Mode}
use Rattle.frp_words.specs.declared.command.Mode.TheVariants.{Run, Check, Replay, Gen}
use Rattle.frp_words.specs.declared.command.Line.{Line}
use Rattle.frp_words.specs.declared.setting.Setting.{Setting}
use Rattle.frp_words.specs.declared.setting.Setting.TheVariants.{Workers, Count, Start}

abbrev pub mode_word : Mode → List ℕ
mode_word Run = codes "run"
mode_word Check = codes "check"
mode_word Replay = codes "replay"
mode_word Gen = codes "gen"

-- the options: the word of each, its least and its greatest value, and the one that stands where it isn't used
abbrev pub setting_word : Setting → List ℕ
setting_word Workers = codes "--workers"
setting_word Count = codes "--count"
setting_word Start = codes "--start"

abbrev pub least : Setting → ℕ
least Workers = 1
least Count = 1
least Start = 0

abbrev pub most : Setting → ℕ
most Workers = 16
most Count = 4000
most Start = 2147483647

abbrev pub default_value : Setting → ℕ
default_value Workers = 1
default_value Count = 10
default_value Start = 0

-- a number, where the option may have it
abbrev pub within : Setting → ℕ → Option ℕ
within o n = if nat_le (least o) n && nat_le n (most o) then Some n else None

abbrev pub if_allowed : Setting → ℤ → Option ℕ
if_allowed o (pos n) = within o n
if_allowed o (negsuc n) = None

-- one `+` or `-` or none, and then digits, at least one
abbrev pub is_number : List ℕ → Bool
is_number text = nat_lt 0 (length (without_leading_sign text)) && all_ascii_digits (without_leading_sign text)

-- the value of an option that a text writes
unfoldable pub value_of : Setting → List ℕ → Option ℕ
value_of o text = if is_number text then if_allowed o (signed_digits_value 10 text) else None

-- a use of an option: `--name value` in two words, or `--name=value` in one
pub record Use : Type 0 where
  pub setting : Setting
  pub text : List ℕ
  pub value : ℕ
  pub is_joined : Bool

abbrev pub use_words : Use → List (List ℕ)
use_words u =
    if u.is_joined then (setting_word u.setting ++ codes "=" ++ u.text) ∷ []
    else setting_word u.setting ∷ u.text ∷ []

-- the text of a use writes its value
abbrev pub HasValue : Use → Type 0
HasValue u = value_of u.setting u.text ≡ Some u.value

-- the values of the uses of an option
abbrev pub values_of : Setting → List Use → List ℕ
values_of o = flat_map (λ u. if bytes_eq (setting_word u.setting) (setting_word o) then u.value ∷ [] else [])

-- the option is used once with this value, or it isn't used and this is the value that stands for it
abbrev pub IsSet : Setting → List Use → ℕ → Type 0
IsSet o uses n = (values_of o uses ≡ n ∷ []) ⊎ ((values_of o uses ≡ []) × (n ≡ default_value o))

-- the words are a command line, and it asks for this
pub record IsLine (words : List (List ℕ)) (line : Line) : Type 0 where
  pub uses : List Use
  pub ending : List (List ℕ)
  pub ends : (ending ≡ []) ⊎ (ending ≡ codes "--" ∷ [])
  pub is_written : words ≡ mode_word line.mode ∷ (flat_map use_words uses ++ ending)
  pub have_values : AllByRecursion HasValue uses
  pub workers : IsSet Workers uses line.workers
  pub count : IsSet Count uses line.count
  pub start : IsSet Start uses line.start
