-- Declarations of the graph.
use Rattle.std.specs.Prelude.{ℕ, if◌then◌else◌, List, codes, Option, Some, None, Ok}
use Rattle.std.specs.Str.{bytes_eq}
use Rattle.frp_lex.specs.declared.token.Token.{Token}
use Rattle.frp_file.specs.declared.file.Param.{Param}
use Rattle.frp_file.specs.declared.file.Give.{Give}
use Rattle.frp_file.specs.declared.file.Template.{Template}
use Rattle.frp_file.specs.declared.file.Function.{Function}
use Rattle.frp_file.specs.declared.file.Decl.{Decl}
use Rattle.frp_file.specs.declared.file.Decl.TheVariants as d
use Rattle.frp_form.specs.declared.item_heads.ItemHead.TheVariants as i
use Rattle.frp_form.specs.declared.item_heads.DeclHead.{DeclHead}
use Rattle.frp_form.specs.declared.item_heads.DeclHead.TheVariants as h
use Rattle.frp_form.specs.Gives.{Parser, ◌>>=◌}
use Rattle.frp_form.specs.Tokens.{left, right, spot, head, opened, begins, after_right}
use Rattle.frp_form.specs.Lists.{many}
use Rattle.frp_form.specs.Exprs.{whole_expr}
use Rattle.frp_form.specs.Shapes.{param}
use Rattle.frp_form.specs.Items.{item_parts, body_item}

-- what a head word of declarations means
abbrev pub decl_head : List ℕ → Option DeclHead
decl_head w =
    if bytes_eq w (codes "template") then Some h.Template
    else if bytes_eq w (codes "fun") then Some h.Function
    else if bytes_eq w (codes "sink") then Some (h.Item i.Sink)
    else if bytes_eq w (codes "cellsink") then Some (h.Item i.Cellsink)
    else if bytes_eq w (codes "let") then Some (h.Item i.Let)
    else if bytes_eq w (codes "tie") then Some (h.Item i.Tie)
    else None

-- the items of a template end where what it gives begins
abbrev pub before_give : List Token → Option (List Token)
before_give ts = if begins (codes "give") ts then Some ts else None

module _ (end : ℕ) where
  -- names and their types in parentheses
  unfoldable pub params : Parser (List Param)
  params ts = do
    at ← left end ts
    many end after_right (param end) at.1

  -- what a template gives
  unfoldable pub give : Parser Give
  give ts = do
    at ← opened end (codes "give") ts
    e ← whole_expr end at.1
    after ← right end e.1
    Ok (record { at = at.0; e = e.0 }, after)

  unfoldable pub template_at : ℕ → Parser Template
  template_at at ts = do
    name ← spot end ts
    p ← param end name.1
    kept ← params p.1
    body ← many end before_give (body_item end) kept.1
    gives ← give body.1
    after ← right end gives.1
    Ok (record { at = at; name = name.0; param = p.0; kept = kept.0; items = body.0; give = gives.0 }, after)

  unfoldable pub function_at : ℕ → Parser Function
  function_at at ts = do
    name ← spot end ts
    kept ← params name.1
    arg ← param end kept.1
    e ← whole_expr end arg.1
    after ← right end e.1
    Ok (record { at = at; name = name.0; kept = kept.0; arg = arg.0; e = e.0 }, after)

  abbrev pub decl_parts : ℕ → DeclHead → Parser Decl
  decl_parts at h.Template ts = template_at at ts >>= λ x. Ok (d.Template x.0, x.1)
  decl_parts at h.Function ts = function_at at ts >>= λ x. Ok (d.Function x.0, x.1)
  decl_parts at (h.Item op) ts = item_parts end at op ts >>= λ x. Ok (d.Item x.0, x.1)

  -- a declaration
  unfoldable pub decl : Parser Decl
  decl ts = do
    at ← left end ts
    op ← head end decl_head at.1
    decl_parts at.0 op.0 op.1
