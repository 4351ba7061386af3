-- Steps over tokens. `end` is the length of the input, where it ends.
use Rattle.std.specs.Prelude.{ℕ, Bool, false, ◌&&◌, ◌||◌, if◌then◌else◌, List, [], ◌∷◌, codes, Option, Some, None, Ok, Err}
use Rattle.std.specs.Str.{bytes_eq}
use Rattle.frp_expr.specs.declared.raw.Spot.{Spot}
use Rattle.frp_lex.specs.declared.token.Kind.{Kind}
use Rattle.frp_lex.specs.declared.token.Kind.TheVariants as k
use Rattle.frp_lex.specs.declared.token.Token.{Token}
use Rattle.frp_lex.specs.Spelling.{is_left, is_right}
use Rattle.frp_form.specs.declared.fault.FormFault.{FormFault}
use Rattle.frp_form.specs.declared.fault.FormKind.{FormKind}
use Rattle.frp_form.specs.declared.fault.FormKind.TheVariants as kind
use Rattle.frp_form.specs.Gives.{FormOutcome, Parser, ◌>>=◌, fault}

-- whether a token is this name
abbrev pub is_named : List ℕ → Kind → Bool
is_named w (k.Name n) = bytes_eq n w
is_named w _ = false

-- `true` and `false` are no names of the user
abbrev pub is_literal : List ℕ → Bool
is_literal n = bytes_eq n (codes "true") || bytes_eq n (codes "false")

-- whether a form of this head word stands at the front
abbrev pub begins : List ℕ → List Token → Bool
begins w (t ∷ u ∷ ts) = is_left t.kind && is_named w u.kind
begins w _ = false

module _ (end : ℕ) where
  -- the fault where nothing that the grammar allows stands at the front
  abbrev pub unexpected : List Token → FormFault
  unexpected [] = fault end kind.End
  unexpected (t ∷ ts) = fault t.at kind.Expected

  -- the fault where what stands at the front is nested too deep
  abbrev pub too_deep : List Token → FormFault
  too_deep [] = fault end kind.End
  too_deep (t ∷ ts) = fault t.at (if is_right t.kind then kind.Expected else kind.Deep)

  -- the place of a left parenthesis
  unfoldable pub left : Parser ℕ
  left [] = Err (unexpected [])
  left (t ∷ ts) = if is_left t.kind then Ok (t.at, ts) else Err (unexpected (t ∷ ts))

  -- what stands behind a right parenthesis
  unfoldable pub right : List Token → FormOutcome (List Token)
  right [] = Err (unexpected [])
  right (t ∷ ts) = if is_right t.kind then Ok ts else Err (unexpected (t ∷ ts))

  -- what stands behind this name
  unfoldable pub word : List ℕ → List Token → FormOutcome (List Token)
  word w [] = Err (unexpected [])
  word w (t ∷ ts) = if is_named w t.kind then Ok ts else Err (unexpected (t ∷ ts))

  -- the place of a form of this head word, and what stands behind that
  unfoldable pub opened : List ℕ → Parser ℕ
  opened w ts = do
    at ← left ts
    rest ← word w at.1
    Ok (at.0, rest)

  -- a name of the user
  abbrev pub spot_by : Token → List Token → Kind → FormOutcome (Spot × List Token)
  spot_by t ts (k.Name n) = if is_literal n then Err (unexpected (t ∷ ts)) else Ok (record { at = t.at; text = n }, ts)
  spot_by t ts _ = Err (unexpected (t ∷ ts))

  unfoldable pub spot : Parser Spot
  spot [] = Err (unexpected [])
  spot (t ∷ ts) = spot_by t ts t.kind

  -- two names
  unfoldable pub two_names : Parser (Spot × Spot)
  two_names ts = do
    x ← spot ts
    y ← spot x.1
    Ok ((x.0, y.0), y.1)

  -- what a head word means
  abbrev pub head_is : {H : Type 0} → List Token → List Token → Option H → FormOutcome (H × List Token)
  head_is ts rest (Some h) = Ok (h, rest)
  head_is ts rest None = Err (unexpected ts)

  abbrev pub head_by : {H : Type 0} → (List ℕ → Option H) → Token → List Token → Kind → FormOutcome (H × List Token)
  head_by meaning t ts (k.Name n) = head_is (t ∷ ts) ts (meaning n)
  head_by meaning t ts _ = Err (unexpected (t ∷ ts))

  -- a head word that has a meaning
  unfoldable pub head : {H : Type 0} → (List ℕ → Option H) → Parser H
  head meaning [] = Err (unexpected [])
  head meaning (t ∷ ts) = head_by meaning t ts t.kind

-- what stands behind a right parenthesis, where one is at the front
abbrev pub after_right : List Token → Option (List Token)
after_right [] = None
after_right (t ∷ ts) = if is_right t.kind then Some ts else None

-- a form that is one too many is at fault at its place, what stands there in its place where it stands
abbrev pub extra : FormKind → FormOutcome (ℕ × List Token) → FormFault
extra kind (Ok at) = fault at.0 kind
extra kind (Err f) = f
