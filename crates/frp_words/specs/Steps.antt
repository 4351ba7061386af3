-- How the words of a command line are read, word by word.
use Rattle.std.specs.Prelude.{ℕ, ◌==◌, List, [], ◌∷◌, length, if◌then◌else◌, Option, Some, None, is_some, unwrap_or, option_map, option_and_then, codes}
use Rattle.std.specs.List.{before_first, after_first, position_or_len}
use Rattle.std.specs.Str.{bytes_eq}
use Rattle.frp_words.specs.declared.command.Mode.{Mode}
use Rattle.frp_words.specs.declared.command.Mode.TheVariants.{Run, Check, Replay, Gen}
use Rattle.frp_words.specs.declared.command.Line.{Line}
use Rattle.frp_words.specs.declared.setting.Setting.{Setting}
use Rattle.frp_words.specs.declared.setting.Setting.TheVariants.{Workers, Count, Start}
use Rattle.frp_words.specs.declared.state.Given.{Given}
use Rattle.frp_words.specs.declared.state.Place.{Place}
use Rattle.frp_words.specs.declared.state.Place.TheVariants.{Open, Awaits, Ended}
use Rattle.frp_words.specs.declared.state.State.{State}
use Rattle.frp_words.specs.CommandLine.{value_of}

unfoldable pub mode_called : List ℕ → Option Mode
mode_called w =
    if bytes_eq w (codes "run") then Some Run
    else (if bytes_eq w (codes "check") then Some Check
    else (if bytes_eq w (codes "replay") then Some Replay
    else (if bytes_eq w (codes "gen") then Some Gen else None)))

unfoldable pub setting_called : List ℕ → Option Setting
setting_called w =
    if bytes_eq w (codes "--workers") then Some Workers
    else (if bytes_eq w (codes "--count") then Some Count
    else (if bytes_eq w (codes "--start") then Some Start else None))

-- one more value, where the option wasn't used yet
abbrev pub with_value : Given → Setting → ℕ → Option Given
with_value g Workers n = if is_some g.workers then None else Some (record g { workers = Some n })
with_value g Count n = if is_some g.count then None else Some (record g { count = Some n })
with_value g Start n = if is_some g.start then None else Some (record g { start = Some n })

abbrev pub opened : Given → State
opened g = record { place = Open; given = g }

-- after the value of an option
unfoldable pub taken : Given → Setting → List ℕ → Option State
taken g o text = option_and_then (λ n. option_map opened (with_value g o n)) (value_of o text)

-- the two parts of a word round its first `=` (61)
abbrev pub cut : List ℕ → Option (List ℕ × List ℕ)
cut w = if position_or_len (λ b. b == 61) w == length w then None else Some (before_first (λ b. b == 61) w, after_first (λ b. b == 61) w)

-- after a word `--name=value`
abbrev pub joined : Given → List ℕ → Option State
joined g w = option_and_then (λ p. option_and_then (λ o. taken g o p.1) (setting_called p.0)) (cut w)

-- after the word that begins the use of an option
abbrev pub named : Given → List ℕ → Option Setting → Option State
named g w (Some o) = Some (record { place = Awaits o; given = g })
named g w None = joined g w

abbrev pub begun : Given → List ℕ → Option State
begun g w = if bytes_eq w (codes "--") then Some (record { place = Ended; given = g }) else named g w (setting_called w)

-- after one more word
abbrev pub stepped : Place → Given → List ℕ → Option State
stepped Open g w = begun g w
stepped (Awaits o) g w = taken g o w
stepped Ended g w = None

unfoldable pub step : State → List ℕ → Option State
step s w = stepped s.place s.given w

-- after words
abbrev pub walked : State → List (List ℕ) → Option State
walked s [] = Some s
walked s (w ∷ ws) = option_and_then (λ t. walked t ws) (step s w)

-- the values, where the words may end
abbrev pub ended : Place → Given → Option Given
ended Open g = Some g
ended (Awaits o) g = None
ended Ended g = Some g

abbrev pub end : State → Option Given
end s = ended s.place s.given

-- before the first word after the mode
abbrev pub start : State
start = opened (record { workers = None; count = None; start = None })

abbrev pub options_of : List (List ℕ) → Option Given
options_of ws = option_and_then end (walked start ws)

-- the line of a mode and of values
abbrev pub line_with : Mode → Given → Line
line_with mode g = record { mode = mode; workers = unwrap_or g.workers 1; count = unwrap_or g.count 10; start = unwrap_or g.start 0 }

-- the line that words ask for
abbrev pub line_of : List (List ℕ) → Option Line
line_of [] = None
line_of (w ∷ ws) = option_and_then (λ mode. option_map (line_with mode) (options_of ws)) (mode_called w)
