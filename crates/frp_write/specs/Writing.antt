-- The canonical text of a file: the tokens that each rule of the grammar is written with, and the lines that they stand on.
use Rattle.std.specs.Prelude.{ℕ, List, [], ◌∷◌, ◌++◌, map, codes, if◌then◌else◌}
use Rattle.frp_expr.specs.declared.raw.Spot.{Spot}
use Rattle.frp_expr.specs.declared.raw.RawTy.{RawTy, fold-RawTy}
use Rattle.frp_expr.specs.declared.raw.TyForm.{TyForm-F}
use Rattle.frp_expr.specs.declared.raw.TyForm.TheOpen as y
use Rattle.frp_expr.specs.declared.raw.Raw.{Raw, fold-Raw}
use Rattle.frp_expr.specs.declared.raw.RawForm.{RawForm-F}
use Rattle.frp_expr.specs.declared.raw.RawForm.TheOpen as o
use Rattle.frp_lex.specs.declared.token.Kind.{Kind}
use Rattle.frp_lex.specs.declared.token.Kind.TheVariants as k
use Rattle.frp_lex.specs.Spelling.{spelling}
use Rattle.frp_file.specs.declared.file.File.{File}
use Rattle.frp_file.specs.declared.file.Graph.{Graph}
use Rattle.frp_file.specs.declared.file.Decl.{Decl}
use Rattle.frp_file.specs.declared.file.Decl.TheVariants as d
use Rattle.frp_file.specs.declared.file.Template.{Template}
use Rattle.frp_file.specs.declared.file.Function.{Function}
use Rattle.frp_file.specs.declared.file.Param.{Param}
use Rattle.frp_file.specs.declared.file.Item.{Item}
use Rattle.frp_file.specs.declared.file.ItemForm.{ItemForm}
use Rattle.frp_file.specs.declared.file.ItemForm.TheVariants as i
use Rattle.frp_file.specs.declared.file.RawShape.{RawShape}
use Rattle.frp_file.specs.declared.file.ShapeForm.{ShapeForm}
use Rattle.frp_file.specs.declared.file.ShapeForm.TheVariants as s
use Rattle.frp_file.specs.declared.file.Listen.{Listen}
use Rattle.frp_file.specs.declared.file.Sender.{Sender}
use Rattle.frp_file.specs.declared.file.RawSend.{RawSend}

abbrev pub Kinds : Type 0
Kinds = List Kind

-- lists one after the other
abbrev pub run_together : List Kinds → Kinds
run_together [] = []
run_together (ks ∷ more) = ks ++ run_together more

-- in parentheses
abbrev pub parens : Kinds → Kinds
parens ks = k.Left ∷ ks ++ k.Right ∷ []

-- a form: its head word and its parts
abbrev pub form : List ℕ → Kinds → Kinds
form head parts = parens (k.Name head ∷ parts)

abbrev pub spot_kind : Spot → Kind
spot_kind n = k.Name n.text

-- types

abbrev pub ty_kinds_step : TyForm-F Kinds Kinds → Kinds
ty_kinds_step y.Int = k.Word (codes "Int") ∷ []
ty_kinds_step y.Bool = k.Word (codes "Bool") ∷ []
ty_kinds_step y.Text = k.Word (codes "Text") ∷ []
ty_kinds_step (y.Pair a b) = parens (k.Word (codes "Pair") ∷ a ++ b)
ty_kinds_step (y.List a) = parens (k.Word (codes "List") ∷ a)
ty_kinds_step (y.Stream a) = parens (k.Word (codes "Stream") ∷ a)
ty_kinds_step (y.Cell a) = parens (k.Word (codes "Cell") ∷ a)
ty_kinds_step (y.Fun a b) = parens (k.Word (codes "Fun") ∷ a ++ b)

abbrev pub ty_kinds : RawTy → Kinds
ty_kinds = fold-RawTy Kinds Kinds ty_kinds_step (λ r. r.form)

-- expressions

abbrev pub expr_kinds_step : RawForm-F Kinds Kinds → Kinds
expr_kinds_step (o.Int n) = k.Num n ∷ []
expr_kinds_step (o.Bool b) = k.Name (if b then codes "true" else codes "false") ∷ []
expr_kinds_step (o.Text t) = k.Str t ∷ []
expr_kinds_step (o.Name n) = k.Name n ∷ []
expr_kinds_step (o.Neg a) = form (codes "neg") a
expr_kinds_step (o.Not a) = form (codes "not") a
expr_kinds_step (o.First a) = form (codes "first") a
expr_kinds_step (o.Second a) = form (codes "second") a
expr_kinds_step (o.Len a) = form (codes "len") a
expr_kinds_step (o.Show a) = form (codes "show") a
expr_kinds_step (o.Let n a b) = form (codes "let") (spot_kind n ∷ a ++ b)
expr_kinds_step (o.Add a b) = form (codes "add") (a ++ b)
expr_kinds_step (o.Sub a b) = form (codes "sub") (a ++ b)
expr_kinds_step (o.Mul a b) = form (codes "mul") (a ++ b)
expr_kinds_step (o.Div a b) = form (codes "div") (a ++ b)
expr_kinds_step (o.Rem a b) = form (codes "rem") (a ++ b)
expr_kinds_step (o.Lt a b) = form (codes "lt") (a ++ b)
expr_kinds_step (o.Eq a b) = form (codes "eq") (a ++ b)
expr_kinds_step (o.And a b) = form (codes "and") (a ++ b)
expr_kinds_step (o.Or a b) = form (codes "or") (a ++ b)
expr_kinds_step (o.Pair a b) = form (codes "pair") (a ++ b)
expr_kinds_step (o.Append a b) = form (codes "append") (a ++ b)
expr_kinds_step (o.Cat a b) = form (codes "cat") (a ++ b)
expr_kinds_step (o.If c a b) = form (codes "if") (c ++ a ++ b)
expr_kinds_step (o.At a i d) = form (codes "at") (a ++ i ++ d)
expr_kinds_step (o.List ps) = form (codes "list") (run_together ps)
expr_kinds_step (o.Nil a) = form (codes "nil") (ty_kinds a)
expr_kinds_step (o.Close f ps) = form (codes "close") (spot_kind f ∷ run_together ps)

abbrev pub expr_kinds : Raw → Kinds
expr_kinds = fold-Raw Kinds Kinds expr_kinds_step (λ r. r.form)

-- shapes

-- a name and its type
abbrev pub param_kinds : Param → Kinds
param_kinds p = parens (spot_kind p.name ∷ ty_kinds p.ty)

-- names and their types
abbrev pub params_kinds : List Param → Kinds
params_kinds ps = parens (run_together (map param_kinds ps))

abbrev pub shape_form_kinds : ShapeForm → Kinds
shape_form_kinds (s.Never ty) = form (codes "never") (ty_kinds ty)
shape_form_kinds (s.Constant o) = form (codes "constant") (expr_kinds o)
shape_form_kinds (s.Map x s e) = form (codes "map") (spot_kind x ∷ expr_kinds s ++ expr_kinds e)
shape_form_kinds (s.Mapc x c e) = form (codes "mapc") (spot_kind x ∷ expr_kinds c ++ expr_kinds e)
shape_form_kinds (s.Filter x s e) = form (codes "filter") (spot_kind x ∷ expr_kinds s ++ expr_kinds e)
shape_form_kinds (s.Merge x y a b e) = form (codes "merge") (spot_kind x ∷ spot_kind y ∷ expr_kinds a ++ expr_kinds b ++ expr_kinds e)
shape_form_kinds (s.Snapshot x y s c e) = form (codes "snapshot") (spot_kind x ∷ spot_kind y ∷ expr_kinds s ++ expr_kinds c ++ expr_kinds e)
shape_form_kinds (s.Split s) = form (codes "split") (expr_kinds s)
shape_form_kinds (s.Updates c) = form (codes "updates") (expr_kinds c)
shape_form_kinds (s.Value c) = form (codes "value") (expr_kinds c)
shape_form_kinds (s.Loops ty) = form (codes "loops") (ty_kinds ty)
shape_form_kinds (s.Loopc ty) = form (codes "loopc") (ty_kinds ty)
shape_form_kinds (s.Hold o s) = form (codes "hold") (expr_kinds o ++ expr_kinds s)
shape_form_kinds (s.Apply cf ca) = form (codes "apply") (expr_kinds cf ++ expr_kinds ca)
shape_form_kinds (s.Switchs c) = form (codes "switchs") (expr_kinds c)
shape_form_kinds (s.Switchc c) = form (codes "switchc") (expr_kinds c)
shape_form_kinds (s.Execute s t kept) = form (codes "execute") (expr_kinds s ++ spot_kind t ∷ run_together (map expr_kinds kept))
shape_form_kinds (s.Orelse a b) = form (codes "orelse") (expr_kinds a ++ expr_kinds b)
shape_form_kinds (s.Gate s c) = form (codes "gate") (expr_kinds s ++ expr_kinds c)
shape_form_kinds (s.Once s) = form (codes "once") (expr_kinds s)
shape_form_kinds (s.Accum ty x y s o e) = form (codes "accum") (ty_kinds ty ++ spot_kind x ∷ spot_kind y ∷ expr_kinds s ++ expr_kinds o ++ expr_kinds e)
shape_form_kinds (s.Collect ty x y s o e) = form (codes "collect") (ty_kinds ty ++ spot_kind x ∷ spot_kind y ∷ expr_kinds s ++ expr_kinds o ++ expr_kinds e)
shape_form_kinds (s.Lift2 x y ca cb e) = form (codes "lift2") (param_kinds x ++ param_kinds y ++ expr_kinds ca ++ expr_kinds cb ++ expr_kinds e)
shape_form_kinds (s.Defer s) = form (codes "defer") (expr_kinds s)

abbrev pub shape_kinds : RawShape → Kinds
shape_kinds r = shape_form_kinds r.form

-- declarations

abbrev pub item_form_kinds : ItemForm → Kinds
item_form_kinds (i.Sink name ty) = form (codes "sink") (spot_kind name ∷ ty_kinds ty)
item_form_kinds (i.Cellsink sink cell ty first) = form (codes "cellsink") (spot_kind sink ∷ spot_kind cell ∷ ty_kinds ty ++ expr_kinds first)
item_form_kinds (i.Let name shape) = form (codes "let") (spot_kind name ∷ shape_kinds shape)
item_form_kinds (i.Tie from to) = form (codes "tie") (spot_kind from ∷ spot_kind to ∷ [])
item_form_kinds (i.Get name cell) = form (codes "get") (spot_kind name ∷ expr_kinds cell)

abbrev pub item_kinds : Item → Kinds
item_kinds r = item_form_kinds r.form

abbrev pub template_kinds : Template → Kinds
template_kinds t = form (codes "template")
    (spot_kind t.name ∷ param_kinds t.param ++ params_kinds t.kept ++ run_together (map item_kinds t.items) ++ form (codes "give") (expr_kinds t.give.e))

abbrev pub function_kinds : Function → Kinds
function_kinds f = form (codes "fun") (spot_kind f.name ∷ params_kinds f.kept ++ param_kinds f.arg ++ expr_kinds f.e)

abbrev pub decl_kinds : Decl → Kinds
decl_kinds (d.Template t) = template_kinds t
decl_kinds (d.Function f) = function_kinds f
decl_kinds (d.Item i) = item_kinds i

-- the forms at the top of a file

abbrev pub graph_kinds : Graph → Kinds
graph_kinds g = form (codes "graph") (run_together (map decl_kinds g.decls))

abbrev pub listen_kinds : Listen → Kinds
listen_kinds l = form (codes "listen") (spot_kind l.name ∷ [])

abbrev pub send_kinds : RawSend → Kinds
send_kinds r = form (codes "send") (spot_kind r.name ∷ expr_kinds r.value)

abbrev pub sender_kinds : Sender → Kinds
sender_kinds r = form (codes "sender") (run_together (map send_kinds r.sends))

-- the forms at the top, in order
abbrev pub forms_of : File → List Kinds
forms_of f = graph_kinds f.graph ∷ map listen_kinds f.listens ++ map sender_kinds f.senders

-- each list of tokens on a line of its own
abbrev pub lines : List Kinds → List ℕ
lines [] = []
lines (ks ∷ more) = spelling ks ++ 10 ∷ lines more

-- the canonical text
abbrev pub canonical : File → List ℕ
canonical f = lines (forms_of f)
