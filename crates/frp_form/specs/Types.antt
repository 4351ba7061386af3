-- Types.
use Rattle.std.specs.Prelude.{ℕ, zero, suc, if◌then◌else◌, List, [], ◌∷◌, codes, Option, Some, None, Ok, Err}
use Rattle.std.specs.Str.{bytes_eq}
use Rattle.frp_expr.specs.declared.raw.RawTy.{RawTy, roll-RawTy}
use Rattle.frp_expr.specs.declared.raw.TyForm.{TyForm}
use Rattle.frp_expr.specs.declared.raw.TyForm.TheVariants as f
use Rattle.frp_lex.specs.declared.token.Kind.{Kind}
use Rattle.frp_lex.specs.declared.token.Kind.TheVariants as k
use Rattle.frp_lex.specs.declared.token.Token.{Token}
use Rattle.frp_form.specs.declared.ty_word.TyWord.{TyWord}
use Rattle.frp_form.specs.declared.ty_word.TyWord.TheVariants as w
use Rattle.frp_form.specs.declared.ty_word.AtomTy.{AtomTy}
use Rattle.frp_form.specs.declared.ty_word.AtomTy.TheVariants as a
use Rattle.frp_form.specs.declared.ty_word.UnaryTy.{UnaryTy}
use Rattle.frp_form.specs.declared.ty_word.UnaryTy.TheVariants as u
use Rattle.frp_form.specs.declared.ty_word.BinaryTy.{BinaryTy}
use Rattle.frp_form.specs.declared.ty_word.BinaryTy.TheVariants as b
use Rattle.frp_form.specs.Gives.{FormOutcome, Parser, ◌>>=◌}
use Rattle.frp_form.specs.Tokens.{unexpected, too_deep, right}

-- the words of types
abbrev pub ty_word : List ℕ → Option TyWord
ty_word t =
    if bytes_eq t (codes "Int") then Some (w.Atom a.Int)
    else if bytes_eq t (codes "Bool") then Some (w.Atom a.Bool)
    else if bytes_eq t (codes "Text") then Some (w.Atom a.Text)
    else if bytes_eq t (codes "List") then Some (w.Unary u.List)
    else if bytes_eq t (codes "Stream") then Some (w.Unary u.Stream)
    else if bytes_eq t (codes "Cell") then Some (w.Unary u.Cell)
    else if bytes_eq t (codes "Pair") then Some (w.Binary b.Pair)
    else if bytes_eq t (codes "Fun") then Some (w.Binary b.Fun)
    else None

abbrev pub atom_ty : AtomTy → TyForm
atom_ty a.Int = f.Int
atom_ty a.Bool = f.Bool
atom_ty a.Text = f.Text

abbrev pub unary_ty : UnaryTy → RawTy → TyForm
unary_ty u.List x = f.List x
unary_ty u.Stream x = f.Stream x
unary_ty u.Cell x = f.Cell x

abbrev pub binary_ty : BinaryTy → RawTy → RawTy → TyForm
binary_ty b.Pair x y = f.Pair x y
binary_ty b.Fun x y = f.Fun x y

-- a written type at its place
abbrev pub raw_ty : ℕ → TyForm → RawTy
raw_ty at form = roll-RawTy (record { at = at; form = form })

-- `part` reads the parts of a type
module _ (end : ℕ) (part : Parser RawTy) where
  -- the parts and the right parenthesis of a form that begins at this place; `ts` is from its head word on
  unfoldable pub ty_parts : ℕ → List Token → Option TyWord → Parser RawTy
  ty_parts at ts (Some (w.Unary op)) rest = do
    x ← part rest
    after ← right end x.1
    Ok (raw_ty at (unary_ty op x.0), after)
  ty_parts at ts (Some (w.Binary op)) rest = do
    x ← part rest
    y ← part x.1
    after ← right end y.1
    Ok (raw_ty at (binary_ty op x.0 y.0), after)
  ty_parts at ts _ rest = Err (unexpected end ts)

  -- what follows the left parenthesis at this place
  abbrev pub ty_head : ℕ → Token → List Token → Kind → FormOutcome (RawTy × List Token)
  ty_head at t ts (k.Word word) = ty_parts at (t ∷ ts) (ty_word word) ts
  ty_head at t ts _ = Err (unexpected end (t ∷ ts))

  unfoldable pub ty_form : ℕ → Parser RawTy
  ty_form at [] = Err (unexpected end [])
  ty_form at (t ∷ ts) = ty_head at t ts t.kind

  abbrev pub ty_atom : Token → List Token → Option TyWord → FormOutcome (RawTy × List Token)
  ty_atom t ts (Some (w.Atom op)) = Ok (raw_ty t.at (atom_ty op), ts)
  ty_atom t ts _ = Err (unexpected end (t ∷ ts))

  abbrev pub ty_by : Token → List Token → Kind → FormOutcome (RawTy × List Token)
  ty_by t ts k.Left = ty_form t.at ts
  ty_by t ts (k.Word word) = ty_atom t ts (ty_word word)
  ty_by t ts _ = Err (unexpected end (t ∷ ts))

  unfoldable pub ty_layer : Parser RawTy
  ty_layer [] = Err (unexpected end [])
  ty_layer (t ∷ ts) = ty_by t ts t.kind

-- a type of at most so many levels
abbrev pub ty_at : ℕ → ℕ → Parser RawTy
ty_at end zero ts = Err (too_deep end ts)
ty_at end (suc n) ts = ty_layer end (ty_at end n) ts

-- a type: it has at most 16 levels
unfoldable pub whole_ty : ℕ → Parser RawTy
whole_ty end = ty_at end 16
