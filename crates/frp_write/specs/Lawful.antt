-- The files that reading allows: their names, texts, numbers, counts and levels, and the places of their items.
use Rattle.std.specs.Prelude.{ℕ, zero, suc, nat_le, Bool, true, false, not, ◌&&◌, List, length}
use Rattle.std.specs.List.{list_all}
use Rattle.frp_expr.specs.declared.raw.Spot.{Spot}
use Rattle.frp_expr.specs.declared.raw.RawTy.{RawTy, fold-RawTy}
use Rattle.frp_expr.specs.declared.raw.TyForm.{TyForm-F}
use Rattle.frp_expr.specs.declared.raw.TyForm.TheOpen as y
use Rattle.frp_expr.specs.declared.raw.Raw.{Raw, fold-Raw}
use Rattle.frp_expr.specs.declared.raw.RawForm.{RawForm-F}
use Rattle.frp_expr.specs.declared.raw.RawForm.TheOpen as o
use Rattle.frp_expr.specs.Raw.{is_lawful}
use Rattle.frp_lex.specs.declared.token.Kind.TheVariants as k
use Rattle.frp_lex.specs.Spelling.{is_lawful_token}
use Rattle.frp_file.specs.declared.file.File.{File}
use Rattle.frp_file.specs.declared.file.Decl.{Decl}
use Rattle.frp_file.specs.declared.file.Decl.TheVariants as d
use Rattle.frp_file.specs.declared.file.Template.{Template}
use Rattle.frp_file.specs.declared.file.Function.{Function}
use Rattle.frp_file.specs.declared.file.Param.{Param}
use Rattle.frp_file.specs.declared.file.Item.{Item}
use Rattle.frp_file.specs.declared.file.ItemForm.{ItemForm}
use Rattle.frp_file.specs.declared.file.ItemForm.TheVariants as i
use Rattle.frp_file.specs.declared.file.ShapeForm.{ShapeForm}
use Rattle.frp_file.specs.declared.file.ShapeForm.TheVariants as s
use Rattle.frp_file.specs.declared.file.Listen.{Listen}
use Rattle.frp_file.specs.declared.file.Sender.{Sender}
use Rattle.frp_file.specs.declared.file.RawSend.{RawSend}
use Rattle.frp_form.specs.Tokens.{is_literal}

-- a name of the user: a token can be it, and it is no literal
abbrev pub is_user : List ℕ → Bool
is_user n = is_lawful_token (k.Name n) && not (is_literal n)

abbrev pub is_user_spot : Spot → Bool
is_user_spot n = is_user n.text

-- ---- levels

-- whether something has at most so many levels, and names of the user
abbrev pub Levels : Type 0
Levels = ℕ → Bool

-- one level above its parts
abbrev pub level : Levels → Levels
level parts zero = false
level parts (suc n) = parts n

abbrev pub ty_within_step : TyForm-F Levels Levels → Levels
ty_within_step y.Int n = true
ty_within_step y.Bool n = true
ty_within_step y.Text n = true
ty_within_step (y.Pair a b) n = a n && b n
ty_within_step (y.List a) n = a n
ty_within_step (y.Stream a) n = a n
ty_within_step (y.Cell a) n = a n
ty_within_step (y.Fun a b) n = a n && b n

abbrev pub ty_within : RawTy → Levels
ty_within = fold-RawTy Levels Levels ty_within_step (λ r. level r.form)

abbrev pub all_within : List Levels → Levels
all_within ps n = list_all (λ (p : Levels). p n) ps

abbrev pub within_step : RawForm-F Levels Levels → Levels
within_step (o.Int z) n = true
within_step (o.Bool b) n = true
within_step (o.Text t) n = true
within_step (o.Name x) n = is_user x
within_step (o.Neg a) n = a n
within_step (o.Not a) n = a n
within_step (o.First a) n = a n
within_step (o.Second a) n = a n
within_step (o.Len a) n = a n
within_step (o.Show a) n = a n
within_step (o.Let x a b) n = is_user_spot x && a n && b n
within_step (o.Add a b) n = a n && b n
within_step (o.Sub a b) n = a n && b n
within_step (o.Mul a b) n = a n && b n
within_step (o.Div a b) n = a n && b n
within_step (o.Rem a b) n = a n && b n
within_step (o.Lt a b) n = a n && b n
within_step (o.Eq a b) n = a n && b n
within_step (o.And a b) n = a n && b n
within_step (o.Or a b) n = a n && b n
within_step (o.Pair a b) n = a n && b n
within_step (o.Append a b) n = a n && b n
within_step (o.Cat a b) n = a n && b n
within_step (o.If c a b) n = c n && a n && b n
within_step (o.At a i d) n = a n && i n && d n
within_step (o.List ps) n = all_within ps n
within_step (o.Nil t) n = ty_within t n
within_step (o.Close f ps) n = is_user_spot f && all_within ps n

abbrev pub expr_within : Raw → Levels
expr_within = fold-Raw Levels Levels within_step (λ r. level r.form)

-- the most levels of a type and of an expression
abbrev pub most_levels : ℕ
most_levels = 16

abbrev pub is_lawful_ty : RawTy → Bool
is_lawful_ty t = ty_within t most_levels

abbrev pub is_lawful_expr : Raw → Bool
is_lawful_expr r = is_lawful r && expr_within r most_levels

-- ---- shapes

abbrev pub is_lawful_param : Param → Bool
is_lawful_param p = is_user_spot p.name && is_lawful_ty p.ty

abbrev pub are_lawful_two : Raw → Raw → Bool
are_lawful_two a b = is_lawful_expr a && is_lawful_expr b

abbrev pub are_lawful_three : Raw → Raw → Raw → Bool
are_lawful_three a b c = is_lawful_expr a && are_lawful_two b c

abbrev pub are_user_two : Spot → Spot → Bool
are_user_two x y = is_user_spot x && is_user_spot y

abbrev pub is_lawful_shape : ShapeForm → Bool
is_lawful_shape (s.Never ty) = is_lawful_ty ty
is_lawful_shape (s.Constant o) = is_lawful_expr o
is_lawful_shape (s.Map x s e) = is_user_spot x && are_lawful_two s e
is_lawful_shape (s.Mapc x c e) = is_user_spot x && are_lawful_two c e
is_lawful_shape (s.Filter x s e) = is_user_spot x && are_lawful_two s e
is_lawful_shape (s.Merge x y a b e) = are_user_two x y && are_lawful_three a b e
is_lawful_shape (s.Snapshot x y s c e) = are_user_two x y && are_lawful_three s c e
is_lawful_shape (s.Split s) = is_lawful_expr s
is_lawful_shape (s.Updates c) = is_lawful_expr c
is_lawful_shape (s.Value c) = is_lawful_expr c
is_lawful_shape (s.Loops ty) = is_lawful_ty ty
is_lawful_shape (s.Loopc ty) = is_lawful_ty ty
is_lawful_shape (s.Hold o s) = are_lawful_two o s
is_lawful_shape (s.Apply cf ca) = are_lawful_two cf ca
is_lawful_shape (s.Switchs c) = is_lawful_expr c
is_lawful_shape (s.Switchc c) = is_lawful_expr c
is_lawful_shape (s.Execute s t kept) = is_lawful_expr s && is_user_spot t && list_all is_lawful_expr kept
is_lawful_shape (s.Orelse a b) = are_lawful_two a b
is_lawful_shape (s.Gate s c) = are_lawful_two s c
is_lawful_shape (s.Once s) = is_lawful_expr s
is_lawful_shape (s.Accum ty x y s o e) = is_lawful_ty ty && are_user_two x y && are_lawful_three s o e
is_lawful_shape (s.Collect ty x y s o e) = is_lawful_ty ty && are_user_two x y && are_lawful_three s o e
is_lawful_shape (s.Lift2 x y ca cb e) = is_lawful_param x && is_lawful_param y && are_lawful_three ca cb e
is_lawful_shape (s.Defer s) = is_lawful_expr s

-- ---- declarations

abbrev pub is_lawful_item_form : ItemForm → Bool
is_lawful_item_form (i.Sink name ty) = is_user_spot name && is_lawful_ty ty
is_lawful_item_form (i.Cellsink sink cell ty first) = are_user_two sink cell && is_lawful_ty ty && is_lawful_expr first
is_lawful_item_form (i.Let name shape) = is_user_spot name && is_lawful_shape shape.form
is_lawful_item_form (i.Tie from to) = are_user_two from to
is_lawful_item_form (i.Get name cell) = is_user_spot name && is_lawful_expr cell

-- the body of the graph has no `get`
abbrev pub is_of_graph : ItemForm → Bool
is_of_graph (i.Get name cell) = false
is_of_graph _ = true

-- the body of a template has no `sink` and no `cellsink`
abbrev pub is_of_template : ItemForm → Bool
is_of_template (i.Sink name ty) = false
is_of_template (i.Cellsink sink cell ty first) = false
is_of_template _ = true

abbrev pub is_lawful_item : Item → Bool
is_lawful_item x = is_of_graph x.form && is_lawful_item_form x.form

abbrev pub is_lawful_body_item : Item → Bool
is_lawful_body_item x = is_of_template x.form && is_lawful_item_form x.form

abbrev pub is_lawful_template : Template → Bool
is_lawful_template t = is_user_spot t.name && is_lawful_param t.param && list_all is_lawful_param t.kept && list_all is_lawful_body_item t.items && is_lawful_expr t.give.e

abbrev pub is_lawful_function : Function → Bool
is_lawful_function f = is_user_spot f.name && list_all is_lawful_param f.kept && is_lawful_param f.arg && is_lawful_expr f.e

abbrev pub is_lawful_decl : Decl → Bool
is_lawful_decl (d.Template t) = is_lawful_template t
is_lawful_decl (d.Function f) = is_lawful_function f
is_lawful_decl (d.Item x) = is_lawful_item x

-- ---- files

abbrev pub is_lawful_listen : Listen → Bool
is_lawful_listen l = is_user_spot l.name

abbrev pub is_lawful_send : RawSend → Bool
is_lawful_send r = is_user_spot r.name && is_lawful_expr r.value

-- at most 4,096 sends
abbrev pub is_lawful_sender : Sender → Bool
is_lawful_sender r = list_all is_lawful_send r.sends && nat_le (length r.sends) 4096

-- at most 16 senders
abbrev pub is_lawful_file : File → Bool
is_lawful_file f = list_all is_lawful_decl f.graph.decls && list_all is_lawful_listen f.listens && list_all is_lawful_sender f.senders && nat_le (length f.senders) 16
