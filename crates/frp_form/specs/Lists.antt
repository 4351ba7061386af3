-- Rules that stand any number of times one after the other.
use Rattle.std.specs.Prelude.{ℕ, zero, suc, List, [], ◌∷◌, ◌++◌, length, codes, Option, Some, None, Ok, Err}
use Rattle.frp_lex.specs.declared.token.Token.{Token}
use Rattle.frp_form.specs.declared.fault.FormFault.{FormFault}
use Rattle.frp_form.specs.declared.fault.FormKind.TheVariants as kind
use Rattle.frp_form.specs.declared.over.Over.{Over}
use Rattle.frp_form.specs.declared.over.Over.TheVariants as o
use Rattle.frp_form.specs.Gives.{FormOutcome, Parser, ◌>>=◌}
use Rattle.frp_form.specs.Tokens.{unexpected, opened, extra}

-- `ends` finds what stands behind a list where it ends, `over` is the fault of a list that goes on past its limit, and `item`
-- reads one of its items.
module _ {A : Type 0} (ends : List Token → Option (List Token)) (over : List Token → FormFault) (item : Parser A) where
  -- a list that ends here has no more items
  abbrev pub ended : Option (List Token) → FormOutcome (List A × List Token) → FormOutcome (List A × List Token)
  ended (Some after) more = Ok ([], after)
  ended None more = more

  -- the items from here on; the number is how many there may be
  unfoldable pub items : ℕ → Parser (List A)
  items zero ts = ended (ends ts) (Err (over ts))
  items (suc n) ts = ended (ends ts) (do
    x ← item ts
    xs ← items n x.1
    Ok (x.0 ∷ xs.0, xs.1))

-- items that were read, before what is read then
abbrev pub behind : {A : Type 0} → List A → FormOutcome (List A × List Token) → FormOutcome (List A × List Token)
behind before read = read >>= λ x. Ok (before ++ x.0, x.1)

-- the fault of a list that goes on past its limit
abbrev pub over_at : ℕ → Over → List Token → FormFault
over_at end o.End ts = unexpected end ts
over_at end o.Send ts = extra kind.Many (opened end (codes "send") ts)
over_at end (o.Sender kind) ts = extra kind (opened end (codes "sender") ts)

-- as many items as there are: each takes a token, so a limit of as many as there are tokens is none
unfoldable pub many : {A : Type 0} → ℕ → (List Token → Option (List Token)) → Parser A → Parser (List A)
many end ends item ts = items ends (over_at end o.End) item (length ts) ts
