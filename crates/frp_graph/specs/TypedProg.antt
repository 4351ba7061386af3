-- Typed programs: each operand, expression, kept value, node and result has the type that is asked for in its place, and uses
-- only what is declared before it.
use Rattle.std.specs.Prelude.{◌≡◌, ℕ, ◌+◌, nat_le, Bool, true, false, not, ◌&&◌, ◌||◌, ◌==◌, List, [], ◌∷◌, ◌++◌, map, length, Option, Some, None, IsTrue, is_some, option_and_then, slice_get, unwrap_or, if◌then◌else◌, max}
use Rattle.std.specs.Option.{option_to_list}
use Rattle.std.specs.List.{list_any, list_all}
use Rattle.frp_base.specs.declared.ty.Ty.{Ty, out-Ty}
use Rattle.frp_base.specs.declared.ty.Ty.TheOpen.{Ty-F}
use Rattle.frp_base.specs.declared.ty.Ty.TheOpen as o
use Rattle.frp_base.specs.declared.ty.Ty.TheVariants as t
use Rattle.frp_base.specs.Ty.{ty_eq}
use Rattle.frp_expr.specs.declared.expr.Expr.{Expr}
use Rattle.frp_expr.specs.Types.{is_type, item_type, given}
use Rattle.frp_expr.specs.Typing.{Sig, ◌>>=◌, has, each_has, type_in}
use Rattle.frp_expr.specs.Uses.{uses}
use Rattle.frp_graph.specs.declared.prog.FunDef.{FunDef}
use Rattle.frp_graph.specs.declared.prog.Joint.{Joint}
use Rattle.frp_graph.specs.declared.prog.Body.{Body}
use Rattle.frp_graph.specs.declared.prog.Prog.{Prog}
use Rattle.frp_graph.specs.declared.prog.Line3.{Line3}
use Rattle.frp_graph.specs.declared.prog.Line3.TheVariants.{Node, Get}
use Rattle.frp_graph.specs.declared.prog.LineLam.{LineLam}
use Rattle.frp_graph.specs.declared.prog.LineShape.{LineShape}
use Rattle.frp_graph.specs.declared.prog.LineShape.TheVariants.{Sink, Never, Constant, Map, Filter, Filteropt, Merge, Snapshot, Split, Updates, Value, Loop, Hold, Mapc, Apply, Switchs, Switchc, Execute}
use Rattle.frp_graph.specs.Roles.{line_role, is_input_line, tied_in, template_in}

-- Types.

-- what a stream and a cell hold
abbrev pub stream_in : Ty-F Ty → Option Ty
stream_in (o.Stream a) = Some a
stream_in o.Int = None
stream_in o.Bool = None
stream_in o.Text = None
stream_in (o.Pair a b) = None
stream_in (o.List a) = None
stream_in (o.Cell a) = None
stream_in (o.Fun a b) = None
stream_in (o.Option a) = None

abbrev pub cell_in : Ty-F Ty → Option Ty
cell_in (o.Cell a) = Some a
cell_in o.Int = None
cell_in o.Bool = None
cell_in o.Text = None
cell_in (o.Pair a b) = None
cell_in (o.List a) = None
cell_in (o.Stream a) = None
cell_in (o.Fun a b) = None
cell_in (o.Option a) = None

abbrev pub stream_item : Ty → Option Ty
stream_item x = stream_in (out-Ty x)

abbrev pub cell_item : Ty → Option Ty
cell_item x = cell_in (out-Ty x)

abbrev pub is_stream : Ty → Bool
is_stream x = is_some (stream_item x)

abbrev pub is_cell : Ty → Bool
is_cell x = is_some (cell_item x)

-- what a function gives for an argument of this type
abbrev pub result_in : Ty → Ty-F Ty → Option Ty
result_in a (o.Fun x y) = given (ty_eq x a) y
result_in a o.Int = None
result_in a o.Bool = None
result_in a o.Text = None
result_in a (o.Pair x y) = None
result_in a (o.List x) = None
result_in a (o.Stream x) = None
result_in a (o.Cell x) = None
result_in a (o.Option x) = None

abbrev pub result_for : Ty → Ty → Option Ty
result_for f a = result_in a (out-Ty f)

-- what an optional value holds
abbrev pub option_in : Ty-F Ty → Option Ty
option_in (o.Option a) = Some a
option_in o.Int = None
option_in o.Bool = None
option_in o.Text = None
option_in (o.Pair a b) = None
option_in (o.List a) = None
option_in (o.Stream a) = None
option_in (o.Cell a) = None
option_in (o.Fun a b) = None

abbrev pub option_item : Ty → Option Ty
option_item x = option_in (out-Ty x)

-- the types of a function, and of the functions of a program
abbrev pub sig_of : FunDef → Sig
sig_of d = record { kept = d.kept; arg = d.arg; result = d.result }

abbrev pub sigs : Prog → List Sig
sigs prog = map sig_of prog.funs

-- the types of these positions
abbrev pub types_at : List Ty → List ℕ → Option (List Ty)
types_at ts [] = Some []
types_at ts (i ∷ is) = do
  x ← slice_get ts i
  xs ← types_at ts is
  Some (x ∷ xs)

-- Lines.

-- a template: the types of its parameter, of its kept values and of what it gives, and how deep it executes others
pub record Pattern : Type 0 where
  pub param : Ty
  pub kept : List Ty
  pub gives : Ty
  pub depth : ℕ

module _ (sigs : List Sig) (codes : List Expr) (patterns : List Pattern) where
  -- what an operand that is a stream, or a cell, holds, over values of these types
  abbrev pub stream_of : List Ty → Expr → Option Ty
  stream_of ts e = type_in sigs e ts >>= stream_item

  abbrev pub cell_of : List Ty → Expr → Option Ty
  cell_of ts e = type_in sigs e ts >>= cell_item

  -- what an expression of the program gives for arguments of these types
  abbrev pub lam_type : List Ty → LineLam → List Ty → Option Ty
  lam_type ts f args = do
    kept ← types_at ts f.kept
    e ← slice_get codes f.code
    type_in sigs e (kept ++ args)

  -- The type of the node of a line of this shape, over values of these types; a sink, a node that never fires and a loop may
  -- have any type that is written, which is given.
  abbrev pub shape_type : List Ty → Ty → LineShape → Option Ty
  shape_type ts x Sink = given (is_stream x && is_type x) x
  shape_type ts x Never = given (is_stream x && is_type x) x
  shape_type ts x (Constant e) = do
    a ← type_in sigs e ts
    Some (t.Cell a)
  shape_type ts x (Map f s) = do
    a ← stream_of ts s
    b ← lam_type ts f (a ∷ [])
    Some (t.Stream b)
  shape_type ts x (Filter f s) = do
    a ← stream_of ts s
    b ← lam_type ts f (a ∷ [])
    given (ty_eq b t.Bool) (t.Stream a)
  shape_type ts x (Filteropt s) = do
    a ← stream_of ts s
    b ← option_item a
    Some (t.Stream b)
  shape_type ts x (Merge f r s) = do
    a ← stream_of ts r
    b ← stream_of ts s
    c ← lam_type ts f (a ∷ a ∷ [])
    given (ty_eq b a && ty_eq c a) (t.Stream a)
  shape_type ts x (Snapshot f s c) = do
    a ← stream_of ts s
    b ← cell_of ts c
    d ← lam_type ts f (a ∷ b ∷ [])
    Some (t.Stream d)
  shape_type ts x (Split s) = do
    a ← stream_of ts s
    b ← item_type a
    Some (t.Stream b)
  shape_type ts x (Updates c) = do
    a ← cell_of ts c
    Some (t.Stream a)
  shape_type ts x (Value c) = do
    a ← cell_of ts c
    Some (t.Stream a)
  shape_type ts x (Loop to) = given ((is_stream x || is_cell x) && is_type x) x
  shape_type ts x (Hold e s) = do
    a ← type_in sigs e ts
    b ← stream_of ts s
    given (ty_eq b a) (t.Cell a)
  shape_type ts x (Mapc f c) = do
    a ← cell_of ts c
    b ← lam_type ts f (a ∷ [])
    Some (t.Cell b)
  shape_type ts x (Apply cf ca) = do
    f ← cell_of ts cf
    a ← cell_of ts ca
    b ← result_for f a
    Some (t.Cell b)
  shape_type ts x (Switchs c) = do
    a ← cell_of ts c
    b ← stream_item a
    Some (t.Stream b)
  shape_type ts x (Switchc c) = do
    a ← cell_of ts c
    b ← cell_item a
    Some (t.Cell b)
  shape_type ts x (Execute s k kept) = do
    a ← stream_of ts s
    d ← slice_get patterns k
    given (ty_eq a d.param && each_has d.kept (map (type_in sigs) kept) ts) (t.Stream d.gives)

  -- whether what a loop is tied to, among values of all these types, has its type
  abbrev pub has_tied_type : List Ty → Ty → LineShape → Bool
  has_tied_type all x shape = is_of_type (tied_in (line_role shape)) where
    is_of_type : Option ℕ → Bool
    is_of_type None = true
    is_of_type (Some to) = has x (slice_get all to)

  -- the type of the value of a line, over values of these types; one that is got is Int where it has none
  abbrev pub line_type : List Ty → Line3 → Ty
  line_type ts (Node x shape) = x
  line_type ts (Get c) = unwrap_or (cell_of ts c) t.Int

  -- the types of all the values of a body
  abbrev pub all_types : List Ty → List Line3 → List Ty
  all_types ts [] = ts
  all_types ts (l ∷ ls) = all_types (ts ++ line_type ts l ∷ []) ls

  -- A line over values of these types, of which those at the positions `made` are the nodes that the body makes.
  abbrev pub is_typed_line : List Ty → List Ty → List ℕ → Line3 → Bool
  is_typed_line all ts made (Node x shape) = has x (shape_type ts x shape) && has_tied_type all x shape
  is_typed_line all ts made (Get c) = is_some (cell_of ts c) && not (list_any (λ i. list_any (λ j. i == j) made) (uses (length ts) c))

  -- the positions of the nodes that are made, with that of this line
  abbrev pub with_node : List ℕ → ℕ → Line3 → List ℕ
  with_node made i (Node x shape) = made ++ i ∷ []
  with_node made i (Get c) = made

  abbrev pub are_typed_lines : List Ty → List Ty → List ℕ → List Line3 → Bool
  are_typed_lines all ts made [] = true
  are_typed_lines all ts made (l ∷ ls) =
      is_typed_line all ts made l && are_typed_lines all (ts ++ line_type ts l ∷ []) (with_node made (length ts) l) ls

  -- the types of the values that a body has before its lines: its parameter and its kept values
  abbrev pub given_types : Body → List Ty
  given_types body = option_to_list body.param ++ body.kept

  abbrev pub has_typed_lines : Body → Bool
  has_typed_lines body = are_typed_lines (all_types (given_types body) body.lines) (given_types body) [] body.lines

-- Functions.

-- a function's kept values and its argument are of types of the language, and its expression has the type of its result
-- over them, with earlier functions
abbrev pub are_typed_funs : List Sig → List FunDef → Bool
are_typed_funs sigs [] = true
are_typed_funs sigs (d ∷ ds) =
    list_all is_type d.kept && is_type d.arg && has d.result (type_in sigs d.e (d.kept ++ d.arg ∷ [])) && are_typed_funs (sigs ++ sig_of d ∷ []) ds

-- Templates.

-- the most levels of templates
abbrev pub deepest : ℕ
deepest = 8

-- whether a line makes a node, and whether it makes no sink: the file gets no value, and a template has no sink
abbrev pub is_node_line : Line3 → Bool
is_node_line (Node x shape) = true
is_node_line (Get c) = false

abbrev pub is_no_sink : Line3 → Bool
is_no_sink (Node x shape) = not (is_input_line (line_role shape))
is_no_sink (Get c) = true

-- how deep a template is that executes these: one more than the deepest
abbrev pub line_depth : List Pattern → Line3 → ℕ
line_depth patterns (Get c) = 0
line_depth patterns (Node x shape) = depth_in (option_and_then (slice_get patterns) (template_in (line_role shape))) where
  depth_in : Option Pattern → ℕ
  depth_in None = 0
  depth_in (Some d) = d.depth

abbrev pub depth_of : List Pattern → List Line3 → ℕ
depth_of patterns [] = 1
depth_of patterns (l ∷ ls) = max (line_depth patterns l + 1) (depth_of patterns ls)

module _ (sigs : List Sig) (codes : List Expr) where
  abbrev pub gives_type : List Pattern → Body → Option Ty
  gives_type patterns body = body.give >>= λ e. type_in sigs e (all_types sigs codes patterns (given_types sigs codes patterns body) body.lines)

  -- the pattern of a template whose earlier ones have these; none where it has no parameter or what it gives has no type
  abbrev pub pattern_of : List Pattern → Body → Option Pattern
  pattern_of patterns body = do
    a ← body.param
    b ← gives_type patterns body
    Some (record { param = a; kept = body.kept; gives = b; depth = depth_of patterns body.lines })

  -- its parameter and its kept values are of types of the language, its lines are typed and no sinks, and it is not too deep
  abbrev pub is_typed_template : List Pattern → Body → Pattern → Bool
  is_typed_template patterns body d =
      is_type d.param && list_all is_type d.kept && list_all is_no_sink body.lines && has_typed_lines sigs codes patterns body && nat_le d.depth deepest

  abbrev pub patterns_of : List Pattern → List Body → Option (List Pattern)
  patterns_of patterns [] = Some patterns
  patterns_of patterns (body ∷ more) = do
    d ← pattern_of patterns body
    if is_typed_template patterns body d then patterns_of (patterns ++ d ∷ []) more else None

-- the patterns of a program's templates, each over those before it
abbrev pub patterns_in : Prog → Option (List Pattern)
patterns_in prog = patterns_of (sigs prog) prog.codes [] prog.templates

abbrev pub patterns : Prog → List Pattern
patterns prog = unwrap_or (patterns_in prog) []

-- Combining expressions.

-- what the sends to a sink are of, where the line makes a sink
abbrev pub sent_type : Option Line3 → Option Ty
sent_type None = None
sent_type (Some (Get c)) = None
sent_type (Some (Node x shape)) = if is_input_line (line_role shape) then stream_item x else None

-- a combining expression is of a sink of the file, and gives a value of the sink's type for two such values
abbrev pub is_typed_join : Prog → Joint → Bool
is_typed_join prog j = is_of_item (sent_type (slice_get prog.body.lines j.item)) where
  is_of_item : Option Ty → Bool
  is_of_item None = false
  is_of_item (Some a) = has a (slice_get prog.codes j.code >>= λ e. type_in (sigs prog) e (a ∷ a ∷ []))

-- no sink has two
abbrev pub are_once : List Joint → Bool
are_once [] = true
are_once (j ∷ js) = list_all (λ k. not (j.item == k.item)) js && are_once js

-- The program is typed: its functions, its templates, each over those before it, its body, which gets nothing, has no
-- parameter and no kept values and gives nothing, and its combining expressions.
pub record IsTypedProg (prog : Prog) : Type 0 where
  pub funs : IsTrue (are_typed_funs [] prog.funs)
  pub templates : IsTrue (is_some (patterns_in prog))
  pub lines : IsTrue (has_typed_lines (sigs prog) prog.codes (patterns prog) prog.body)
  pub nodes_only : IsTrue (list_all is_node_line prog.body.lines)
  pub joins : IsTrue (list_all (is_typed_join prog) prog.joins && are_once prog.joins)
  pub no_param : prog.body.param ≡ None
  pub no_kept : prog.body.kept ≡ []
  pub gives_nothing : prog.body.give ≡ None
