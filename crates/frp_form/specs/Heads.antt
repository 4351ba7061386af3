-- The words that forms of expressions begin with.
use Rattle.std.specs.Prelude.{ℕ, true, false, if◌then◌else◌, List, codes, Option, Some, None}
use Rattle.std.specs.Str.{bytes_eq}
use Rattle.frp_expr.specs.declared.raw.Raw.{Raw, roll-Raw}
use Rattle.frp_expr.specs.declared.raw.RawForm.{RawForm}
use Rattle.frp_expr.specs.declared.raw.RawForm.TheVariants as f
use Rattle.frp_form.specs.declared.heads.Unary.{Unary}
use Rattle.frp_form.specs.declared.heads.Unary.TheVariants as u
use Rattle.frp_form.specs.declared.heads.Binary.{Binary}
use Rattle.frp_form.specs.declared.heads.Binary.TheVariants as b
use Rattle.frp_form.specs.declared.heads.Ternary.{Ternary}
use Rattle.frp_form.specs.declared.heads.Ternary.TheVariants as t
use Rattle.frp_form.specs.declared.heads.Head.{Head}
use Rattle.frp_form.specs.declared.heads.Head.TheVariants as h

-- what a head word of a form of three parts, or of other parts than expressions, means
abbrev pub other_head : List ℕ → Option Head
other_head w =
    if bytes_eq w (codes "if") then Some (h.Ternary t.If)
    else if bytes_eq w (codes "at") then Some (h.Ternary t.At)
    else if bytes_eq w (codes "let") then Some h.Let
    else if bytes_eq w (codes "list") then Some h.List
    else if bytes_eq w (codes "nil") then Some h.Nil
    else if bytes_eq w (codes "close") then Some h.Close
    else None

-- what a head word of a form of more than one part means
abbrev pub binary_head : List ℕ → Option Head
binary_head w =
    if bytes_eq w (codes "add") then Some (h.Binary b.Add)
    else if bytes_eq w (codes "sub") then Some (h.Binary b.Sub)
    else if bytes_eq w (codes "mul") then Some (h.Binary b.Mul)
    else if bytes_eq w (codes "div") then Some (h.Binary b.Div)
    else if bytes_eq w (codes "rem") then Some (h.Binary b.Rem)
    else if bytes_eq w (codes "lt") then Some (h.Binary b.Lt)
    else if bytes_eq w (codes "eq") then Some (h.Binary b.Eq)
    else if bytes_eq w (codes "and") then Some (h.Binary b.And)
    else if bytes_eq w (codes "or") then Some (h.Binary b.Or)
    else if bytes_eq w (codes "pair") then Some (h.Binary b.Pair)
    else if bytes_eq w (codes "append") then Some (h.Binary b.Append)
    else if bytes_eq w (codes "cat") then Some (h.Binary b.Cat)
    else other_head w

-- what a head word of expressions means
abbrev pub head_of : List ℕ → Option Head
head_of w =
    if bytes_eq w (codes "neg") then Some (h.Unary u.Neg)
    else if bytes_eq w (codes "not") then Some (h.Unary u.Not)
    else if bytes_eq w (codes "first") then Some (h.Unary u.First)
    else if bytes_eq w (codes "second") then Some (h.Unary u.Second)
    else if bytes_eq w (codes "len") then Some (h.Unary u.Len)
    else if bytes_eq w (codes "show") then Some (h.Unary u.Show)
    else binary_head w

-- the forms of these heads over their parts

abbrev pub unary_form : Unary → Raw → RawForm
unary_form u.Neg x = f.Neg x
unary_form u.Not x = f.Not x
unary_form u.First x = f.First x
unary_form u.Second x = f.Second x
unary_form u.Len x = f.Len x
unary_form u.Show x = f.Show x

abbrev pub binary_form : Binary → Raw → Raw → RawForm
binary_form b.Add x y = f.Add x y
binary_form b.Sub x y = f.Sub x y
binary_form b.Mul x y = f.Mul x y
binary_form b.Div x y = f.Div x y
binary_form b.Rem x y = f.Rem x y
binary_form b.Lt x y = f.Lt x y
binary_form b.Eq x y = f.Eq x y
binary_form b.And x y = f.And x y
binary_form b.Or x y = f.Or x y
binary_form b.Pair x y = f.Pair x y
binary_form b.Append x y = f.Append x y
binary_form b.Cat x y = f.Cat x y

abbrev pub ternary_form : Ternary → Raw → Raw → Raw → RawForm
ternary_form t.If x y z = f.If x y z
ternary_form t.At x y z = f.At x y z

-- a name as an expression: `true` and `false` are literals
abbrev pub name_form : List ℕ → RawForm
name_form n = if bytes_eq n (codes "true") then f.Bool true else if bytes_eq n (codes "false") then f.Bool false else f.Name n

-- a written expression at its place
abbrev pub raw_at : ℕ → RawForm → Raw
raw_at at form = roll-Raw (record { at = at; form = form })
