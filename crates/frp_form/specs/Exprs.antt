-- Expressions.
use Rattle.std.specs.Prelude.{ℕ, zero, suc, Bool, true, false, if◌then◌else◌, List, [], ◌∷◌, length, Ok, Err}
use Rattle.frp_expr.specs.declared.raw.RawTy.{RawTy}
use Rattle.frp_expr.specs.declared.raw.Raw.{Raw}
use Rattle.frp_expr.specs.declared.raw.RawForm.TheVariants as f
use Rattle.frp_lex.specs.declared.token.Kind.{Kind}
use Rattle.frp_lex.specs.declared.token.Kind.TheVariants as k
use Rattle.frp_lex.specs.declared.token.Token.{Token}
use Rattle.frp_form.specs.declared.fault.FormFault.{FormFault}
use Rattle.frp_form.specs.declared.fault.FormKind.TheVariants as kind
use Rattle.frp_form.specs.declared.heads.Head.{Head}
use Rattle.frp_form.specs.declared.heads.Head.TheVariants as h
use Rattle.frp_form.specs.declared.heads.Unary.{Unary}
use Rattle.frp_form.specs.declared.heads.Binary.{Binary}
use Rattle.frp_form.specs.declared.heads.Ternary.{Ternary}
use Rattle.frp_form.specs.Gives.{FormOutcome, Parser, ◌>>=◌, fault}
use Rattle.frp_form.specs.Tokens.{unexpected, too_deep, right, spot, head, after_right}
use Rattle.frp_form.specs.Lists.{items}
use Rattle.frp_form.specs.Types.{ty_at}
use Rattle.frp_form.specs.Heads.{head_of, unary_form, binary_form, ternary_form, name_form, raw_at}

-- whether an expression can begin with a token
abbrev pub begins_expr : Kind → Bool
begins_expr k.Right = false
begins_expr (k.Word w) = false
begins_expr _ = true

-- the fault of a list that has all the items that it may have and does not end
abbrev pub too_many : ℕ → List Token → FormFault
too_many end [] = unexpected end []
too_many end (t ∷ ts) = fault t.at (if begins_expr t.kind then kind.Many else kind.Expected)

-- `part` reads the parts of an expression
module _ (end : ℕ) (part : Parser Raw) where
  -- at most so many expressions and a right parenthesis
  unfoldable pub expr_list : ℕ → Parser (List Raw)
  expr_list = items after_right (too_many end) part

  -- the parts and the right parenthesis of a form that begins at this place

  unfoldable pub unary_at : ℕ → Unary → Parser Raw
  unary_at at op ts = do
    x ← part ts
    after ← right end x.1
    Ok (raw_at at (unary_form op x.0), after)

  unfoldable pub binary_at : ℕ → Binary → Parser Raw
  binary_at at op ts = do
    x ← part ts
    y ← part x.1
    after ← right end y.1
    Ok (raw_at at (binary_form op x.0 y.0), after)

  unfoldable pub ternary_at : ℕ → Ternary → Parser Raw
  ternary_at at op ts = do
    x ← part ts
    y ← part x.1
    z ← part y.1
    after ← right end z.1
    Ok (raw_at at (ternary_form op x.0 y.0 z.0), after)

  unfoldable pub let_at : ℕ → Parser Raw
  let_at at ts = do
    name ← spot end ts
    x ← part name.1
    y ← part x.1
    after ← right end y.1
    Ok (raw_at at (f.Let name.0 x.0 y.0), after)

  -- one item, and at most 1,023 more
  unfoldable pub list_at : ℕ → Parser Raw
  list_at at ts = do
    x ← part ts
    xs ← expr_list 1023 x.1
    Ok (raw_at at (f.List (x.0 ∷ xs.0)), xs.1)

  unfoldable pub nil_at : Parser RawTy → ℕ → Parser Raw
  nil_at ty at ts = do
    x ← ty ts
    after ← right end x.1
    Ok (raw_at at (f.Nil x.0), after)

  -- as many kept values as there are; each takes a token
  unfoldable pub close_at : ℕ → Parser Raw
  close_at at ts = do
    name ← spot end ts
    xs ← expr_list (length name.1) name.1
    Ok (raw_at at (f.Close name.0 xs.0), xs.1)

  abbrev pub parts_at : Parser RawTy → ℕ → Head → Parser Raw
  parts_at ty at (h.Unary op) ts = unary_at at op ts
  parts_at ty at (h.Binary op) ts = binary_at at op ts
  parts_at ty at (h.Ternary op) ts = ternary_at at op ts
  parts_at ty at h.Let ts = let_at at ts
  parts_at ty at h.List ts = list_at at ts
  parts_at ty at h.Nil ts = nil_at ty at ts
  parts_at ty at h.Close ts = close_at at ts

  -- what follows the left parenthesis at this place
  unfoldable pub form_at : Parser RawTy → ℕ → Parser Raw
  form_at ty at ts = do
    op ← head end head_of ts
    parts_at ty at op.0 op.1

  abbrev pub expr_by : Parser RawTy → Token → List Token → Kind → FormOutcome (Raw × List Token)
  expr_by ty t ts k.Left = form_at ty t.at ts
  expr_by ty t ts (k.Num z) = Ok (raw_at t.at (f.Int z), ts)
  expr_by ty t ts (k.Str s) = Ok (raw_at t.at (f.Text s), ts)
  expr_by ty t ts (k.Name n) = Ok (raw_at t.at (name_form n), ts)
  expr_by ty t ts _ = Err (unexpected end (t ∷ ts))

  unfoldable pub expr_layer : Parser RawTy → Parser Raw
  expr_layer ty [] = Err (unexpected end [])
  expr_layer ty (t ∷ ts) = expr_by ty t ts t.kind

-- an expression of at most so many levels
abbrev pub expr_at : ℕ → ℕ → Parser Raw
expr_at end zero ts = Err (too_deep end ts)
expr_at end (suc n) ts = expr_layer end (expr_at end n) (ty_at end n) ts

-- an expression: it has at most 16 levels
unfoldable pub whole_expr : ℕ → Parser Raw
whole_expr end = expr_at end 16

-- kept values and a right parenthesis
unfoldable pub kept_exprs : ℕ → Parser (List Raw)
kept_exprs end ts = expr_list end (expr_at end 16) (length ts) ts
