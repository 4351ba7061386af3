-- What a file of core items means: its program, the names of its nodes, what it listens to and what it sends.
use Rattle.std.specs.Prelude.{ℕ, ◌+◌, ◌==◌, List, [], ◌∷◌, ◌++◌, map, length, Option, Some, None, Ok, Err, unwrap_or, if◌then◌else◌}
use Rattle.std.specs.Result.{result_ok}
use Rattle.frp_base.specs.declared.text.Text.{Text}
use Rattle.frp_base.specs.declared.name.Name.{Name}
use Rattle.frp_base.specs.declared.ty.Ty.{Ty}
use Rattle.frp_base.specs.declared.ty.Ty.TheVariants as t
use Rattle.frp_base.specs.declared.val.Val.{Val}
use Rattle.frp_base.specs.Name.{declared_name}
use Rattle.frp_expr.specs.declared.expr.Expr.{Expr}
use Rattle.frp_expr.specs.declared.raw.Raw.{Raw}
use Rattle.frp_expr.specs.declared.raw.Spot.{Spot}
use Rattle.frp_expr.specs.Eval.{eval}
use Rattle.frp_expr.specs.Scope.{number_of, Named, names_of, types_of, fun_names}
use Rattle.frp_expr.specs.Raw.{ExprOutcome, resolve, type_written, typing}
use Rattle.frp_file.specs.declared.file.File.{File}
use Rattle.frp_file.specs.declared.file.Decl.{Decl}
use Rattle.frp_file.specs.declared.file.Decl.TheVariants as d
use Rattle.frp_file.specs.declared.file.Function.{Function}
use Rattle.frp_file.specs.declared.file.ItemForm.{ItemForm}
use Rattle.frp_file.specs.declared.file.ItemForm.TheVariants.{Sink, Let, Tie}
use Rattle.frp_file.specs.declared.file.RawSend.{RawSend}
use Rattle.frp_file.specs.declared.file.ShapeForm.{ShapeForm}
use Rattle.frp_file.specs.declared.file.ShapeForm.TheVariants.{Never, Constant, Map, Mapc, Filter, Merge, Snapshot, Split, Updates, Value, Loops, Loopc, Hold, Apply, Switchs, Switchc}
use Rattle.frp_graph.specs.declared.prog.FunDef.{FunDef}
use Rattle.frp_graph.specs.declared.prog.Line3.{Line3}
use Rattle.frp_graph.specs.declared.prog.Line3.TheVariants.{Node}
use Rattle.frp_graph.specs.declared.prog.LineLam.{LineLam}
use Rattle.frp_graph.specs.declared.prog.LineShape.{LineShape}
use Rattle.frp_graph.specs.declared.prog.LineShape.TheVariants as l
use Rattle.frp_graph.specs.declared.prog.Prog.{Prog}
use Rattle.frp_graph.specs.declared.trace.Fact.{Fact}
use Rattle.frp_graph.specs.Births.{reference}
use Rattle.frp_type.specs.Closed.{closed, used_of}
use Rattle.frp_type.specs.Known.{Known, nothing, shape_typing, lam_in, params, tying, declared}
use Rattle.frp_type.specs.declared.typed.Label.{Label}
use Rattle.frp_type.specs.declared.typed.Typed.{Typed}

-- What declarations give, each over what is known before it.

-- what is known after a declaration; where it is at fault, as before
abbrev pub known_with : Known → Decl → Known
known_with k d = unwrap_or (result_ok (declared k d)) k

abbrev pub known_after : Known → List Decl → Known
known_after k [] = k
known_after k (d ∷ ds) = known_after (known_with k d) ds

abbrev pub each : {A : Type 0} → (Known → Decl → List A) → Known → List Decl → List A
each f k [] = []
each f k (d ∷ ds) = f k d ++ each f (known_with k d) ds

-- the type that was found; Int where there is a fault
abbrev pub or_int : ExprOutcome Ty → Ty
or_int o = unwrap_or (result_ok o) t.Int

-- the expression that an operand stands for, and an expression with variables
abbrev pub operand : Known → Raw → Expr
operand k r = resolve (fun_names k.funs) r (names_of k.names)

abbrev pub body_expr : Known → List Text → Raw → Expr
body_expr k vars r = resolve (fun_names k.funs) r (names_of k.names ++ vars)

-- A shape's expression over the values of the body that it uses and its variables, and those values' positions; the
-- expression is the next of the program.
abbrev pub code : Known → List Text → Raw → Expr
code k vars r = closed (length k.names) (length vars) (body_expr k vars r)

abbrev pub line_lam : Known → List Text → Raw → LineLam
line_lam k vars r = record { code = k.codes; kept = used_of (length k.names) (length vars) (body_expr k vars r) }

-- what the loop at a position is tied to: the first of the ties says it; without one it is itself
abbrev pub tied_to : List (ℕ × ℕ) → ℕ → ℕ
tied_to [] i = i
tied_to (ij ∷ more) i = if ij.0 == i then ij.1 else tied_to more i

-- The shape of a line.
module _ (ties : List (ℕ × ℕ)) (k : Known) where
  abbrev pub line_shape : ShapeForm → LineShape
  line_shape (Never ty) = l.Never
  line_shape (Constant e) = l.Constant (operand k e)
  line_shape (Map x s e) = l.Map (line_lam k (x.text ∷ []) e) (operand k s)
  line_shape (Mapc x c e) = l.Mapc (line_lam k (x.text ∷ []) e) (operand k c)
  line_shape (Filter x s e) = l.Filter (line_lam k (x.text ∷ []) e) (operand k s)
  line_shape (Merge x y r s e) = l.Merge (line_lam k (x.text ∷ y.text ∷ []) e) (operand k r) (operand k s)
  line_shape (Snapshot x y s c e) = l.Snapshot (line_lam k (x.text ∷ y.text ∷ []) e) (operand k s) (operand k c)
  line_shape (Split s) = l.Split (operand k s)
  line_shape (Updates c) = l.Updates (operand k c)
  line_shape (Value c) = l.Value (operand k c)
  line_shape (Loops ty) = l.Loop (tied_to ties (length k.names))
  line_shape (Loopc ty) = l.Loop (tied_to ties (length k.names))
  line_shape (Hold e s) = l.Hold (operand k e) (operand k s)
  line_shape (Apply cf ca) = l.Apply (operand k cf) (operand k ca)
  line_shape (Switchs c) = l.Switchs (operand k c)
  line_shape (Switchc c) = l.Switchc (operand k c)
  line_shape _ = l.Never

  -- the lines of an item
  abbrev pub item_lines : ItemForm → List Line3
  item_lines (Sink n ty) = Node (t.Stream (or_int (type_written ty))) l.Sink ∷ []
  item_lines (Let n shape) = Node (or_int (shape_typing k.funs k.names shape.form)) (line_shape shape.form) ∷ []
  item_lines _ = []

abbrev pub lines_of : List (ℕ × ℕ) → Known → Decl → List Line3
lines_of ties k (d.Item i) = item_lines ties k i.form
lines_of ties k _ = []

-- the expression of a shape that has one
abbrev pub code_in : Known → Option (List Text × Raw) → List Expr
code_in k None = []
code_in k (Some f) = code k f.0 f.1 ∷ []

abbrev pub item_codes : Known → ItemForm → List Expr
item_codes k (Let n shape) = code_in k (lam_in shape.form)
item_codes k _ = []

abbrev pub codes_of : Known → Decl → List Expr
codes_of k (d.Item i) = item_codes k i.form
codes_of k _ = []

-- the loop of a tie and what it is tied to
abbrev pub tie_in : ExprOutcome (ℕ × ℕ) → List (ℕ × ℕ)
tie_in (Ok ij) = ij ∷ []
tie_in (Err f) = []

abbrev pub item_ties : Known → ItemForm → List (ℕ × ℕ)
item_ties k (Tie l x) = tie_in (tying k l x)
item_ties k _ = []

abbrev pub ties_of : Known → Decl → List (ℕ × ℕ)
ties_of k (d.Item i) = item_ties k i.form
ties_of k _ = []

-- a function, over its kept values and its argument
abbrev pub fun_def : Known → Function → List Named → FunDef
fun_def k f kept = record {
  kept = types_of kept;
  arg = or_int (type_written f.arg.ty);
  result = or_int (typing k.funs f.e (kept ++ (f.arg.name.text, or_int (type_written f.arg.ty)) ∷ []));
  e = resolve (fun_names k.funs) f.e (names_of kept ++ f.arg.name.text ∷ []);
}

abbrev pub funs_of : Known → Decl → List FunDef
funs_of k (d.Function f) = fun_def k f (unwrap_or (result_ok (params [] f.kept)) []) ∷ []
funs_of k _ = []

abbrev pub prog_of : List Decl → Prog
prog_of ds = record {
  codes = each codes_of nothing ds;
  funs = each funs_of nothing ds;
  templates = [];
  body = record { param = None; kept = []; lines = each (lines_of (each ties_of nothing ds)) nothing ds; give = None };
  joins = [];
}

-- The nodes by their names: node i is that of the i-th name of the body.

abbrev pub labels_from : ℕ → List Named → List Label
labels_from i [] = []
labels_from i (n ∷ ns) = record { name = declared_name i; text = n.0; ty = n.1 } ∷ labels_from (i + 1) ns

abbrev pub references_from : ℕ → List Named → List Val
references_from i [] = []
references_from i (n ∷ ns) = reference n.1 (declared_name i) ∷ references_from (i + 1) ns

-- the node of a name
abbrev pub node_named : Known → Spot → Name
node_named k n = declared_name (number_of n.text (names_of k.names))

-- a send, with its value over these references of the nodes
abbrev pub sent_over : Known → List Val → RawSend → Fact
sent_over k vs s = record { node = node_named k s.name; value = eval (operand k s.value) vs }

abbrev pub typed_by : Known → File → Typed
typed_by k f = record {
  prog = prog_of f.graph.decls;
  labels = labels_from 0 k.names;
  listens = map (λ l. node_named k l.name) f.listens;
  scripts = map (λ s. map (sent_over k (references_from 0 k.names)) s.sends) f.senders;
}

abbrev pub meaning : File → Typed
meaning f = typed_by (known_after nothing f.graph.decls) f
