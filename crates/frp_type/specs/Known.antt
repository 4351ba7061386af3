-- What is known before a declaration, and the types and first faults of declarations. Names and operands are looked at from
-- the left: a name before its type, an operand with its own parts first and then its own type in its place, all before the
-- next.
use Rattle.std.specs.Prelude.{ℕ, ◌+◌, Bool, true, false, not, ◌==◌, List, [], ◌∷◌, ◌++◌, length, filter, Option, Some, None, is_some, Ok, Err, slice_get, if◌then◌else◌}
use Rattle.std.specs.List.{list_any}
use Rattle.frp_base.specs.declared.text.Text.{Text}
use Rattle.frp_base.specs.declared.ty.Ty.{Ty, out-Ty}
use Rattle.frp_base.specs.declared.ty.Ty.TheOpen.{Ty-F}
use Rattle.frp_base.specs.declared.ty.Ty.TheOpen as o
use Rattle.frp_base.specs.declared.ty.Ty.TheVariants as t
use Rattle.frp_base.specs.Ty.{ty_eq}
use Rattle.frp_expr.specs.Types.{item_type, given}
use Rattle.frp_expr.specs.Typing.{◌>>=◌ as ◌>>?◌}
use Rattle.frp_expr.specs.Scope.{text_eq, place_of, Named, Fun, names_of, types_of, fun_names}
use Rattle.frp_expr.specs.Raw.{ExprOutcome, ◌>>=◌, or_fault, part_of, type_written, typing}
use Rattle.frp_expr.specs.declared.fault.TypeKind.{TypeKind}
use Rattle.frp_expr.specs.declared.fault.TypeKind.TheVariants as kind
use Rattle.frp_expr.specs.declared.raw.Raw.{Raw}
use Rattle.frp_expr.specs.declared.raw.Spot.{Spot}
use Rattle.frp_file.specs.declared.file.Param.{Param}
use Rattle.frp_file.specs.declared.file.Function.{Function}
use Rattle.frp_file.specs.declared.file.ItemForm.{ItemForm}
use Rattle.frp_file.specs.declared.file.ItemForm.TheVariants.{Sink, Let, Tie}
use Rattle.frp_file.specs.declared.file.ShapeForm.{ShapeForm}
use Rattle.frp_file.specs.declared.file.ShapeForm.TheVariants.{Never, Constant, Map, Mapc, Filter, Merge, Snapshot, Split, Updates, Value, Loops, Loopc, Hold, Apply, Switchs, Switchc, Execute}
use Rattle.frp_file.specs.declared.file.Decl.{Decl}
use Rattle.frp_file.specs.declared.file.Decl.TheVariants as d
use Rattle.frp_graph.specs.TypedProg.{stream_item, cell_item}
use Rattle.frp_type.specs.declared.state.Loop.{Loop}

-- The functions, the names of the body with their types, how many expressions shapes have had, and the loops that are not
-- tied yet, in the order of their items.
pub record Known : Type 0 where
  pub funs : List Fun
  pub names : List Named
  pub codes : ℕ
  pub loops : List Loop

abbrev pub nothing : Known
nothing = record { funs = []; names = []; codes = 0; loops = [] }

-- a fault, where the test holds
abbrev pub fault_if : Bool → ℕ → TypeKind → ExprOutcome (Unit {0})
fault_if b at k = if b then Err (record { place = at; kind = k }) else Ok tt

-- a name that is not among these yet
abbrev pub unless_taken : List Text → Spot → ExprOutcome (Unit {0})
unless_taken names n = fault_if (list_any (λ m. text_eq m n.text) names) n.at kind.Twice

-- Shapes.

-- the argument and the result of a function
abbrev pub fun_in : Ty-F Ty → Option (Ty × Ty)
fun_in (o.Fun a b) = Some (a, b)
fun_in _ = None

abbrev pub fun_parts : Ty → Option (Ty × Ty)
fun_parts x = fun_in (out-Ty x)

-- what an operand's type over these names is seen as, where it is right in its place
abbrev pub operand_seen : {A : Type 0} → List Fun → List Named → (Ty → Option A) → Raw → ExprOutcome A
operand_seen funs names right r = typing funs r names >>= λ x. or_fault (part_of funs r).at kind.Type (right x)

-- an operand of this type
abbrev pub of_type : List Fun → List Named → Ty → Raw → ExprOutcome Ty
of_type funs names x = operand_seen funs names (λ y. given (ty_eq y x) x)

module _ (funs : List Fun) (names : List Named) where
  -- the type of what an operand that is a stream, or a cell, holds
  abbrev pub stream : Raw → ExprOutcome Ty
  stream = operand_seen funs names stream_item

  abbrev pub cell : Raw → ExprOutcome Ty
  cell = operand_seen funs names cell_item

  -- the type of an expression with variables
  abbrev pub over : List Named → Raw → ExprOutcome Ty
  over vars r = typing funs r (names ++ vars)

  -- The type of the node of a written core shape, or the shape's first fault. No template is declared yet.
  abbrev pub shape_typing : ShapeForm → ExprOutcome Ty
  shape_typing (Never ty) = do
    a ← type_written ty
    Ok (t.Stream a)
  shape_typing (Constant e) = do
    a ← typing funs e names
    Ok (t.Cell a)
  shape_typing (Map x s e) = do
    a ← stream s
    b ← over ((x.text, a) ∷ []) e
    Ok (t.Stream b)
  shape_typing (Mapc x c e) = do
    a ← cell c
    b ← over ((x.text, a) ∷ []) e
    Ok (t.Cell b)
  shape_typing (Filter x s e) = do
    a ← stream s
    _ ← of_type funs (names ++ (x.text, a) ∷ []) t.Bool e
    Ok (t.Stream a)
  shape_typing (Merge x y r s e) = do
    a ← stream r
    _ ← of_type funs names (t.Stream a) s
    _ ← of_type funs (names ++ (x.text, a) ∷ (y.text, a) ∷ []) a e
    Ok (t.Stream a)
  shape_typing (Snapshot x y s c e) = do
    a ← stream s
    b ← cell c
    d ← over ((x.text, a) ∷ (y.text, b) ∷ []) e
    Ok (t.Stream d)
  shape_typing (Split s) = do
    a ← operand_seen funs names (λ x. stream_item x >>? item_type) s
    Ok (t.Stream a)
  shape_typing (Updates c) = do
    a ← cell c
    Ok (t.Stream a)
  shape_typing (Value c) = do
    a ← cell c
    Ok (t.Stream a)
  shape_typing (Loops ty) = do
    a ← type_written ty
    Ok (t.Stream a)
  shape_typing (Loopc ty) = do
    a ← type_written ty
    Ok (t.Cell a)
  shape_typing (Hold e s) = do
    a ← typing funs e names
    _ ← of_type funs names (t.Stream a) s
    Ok (t.Cell a)
  shape_typing (Apply cf ca) = do
    f ← operand_seen funs names (λ x. cell_item x >>? fun_parts) cf
    _ ← of_type funs names (t.Cell f.0) ca
    Ok (t.Cell f.1)
  shape_typing (Switchs c) = do
    a ← operand_seen funs names (λ x. cell_item x >>? stream_item) c
    Ok (t.Stream a)
  shape_typing (Switchc c) = do
    a ← operand_seen funs names (λ x. cell_item x >>? cell_item) c
    Ok (t.Cell a)
  shape_typing (Execute s template kept) = do
    _ ← stream s
    Err (record { place = template.at; kind = kind.Unknown })
  shape_typing _ = Ok t.Int

-- whether a shape is a loop
abbrev pub is_loop : ShapeForm → Bool
is_loop (Loops ty) = true
is_loop (Loopc ty) = true
is_loop _ = false

-- the variables and the expression of a shape, where it has one
abbrev pub lam_in : ShapeForm → Option (List Text × Raw)
lam_in (Map x s e) = Some (x.text ∷ [], e)
lam_in (Mapc x c e) = Some (x.text ∷ [], e)
lam_in (Filter x s e) = Some (x.text ∷ [], e)
lam_in (Merge x y r s e) = Some (x.text ∷ y.text ∷ [], e)
lam_in (Snapshot x y s c e) = Some (x.text ∷ y.text ∷ [], e)
lam_in _ = None

-- Items: what is known after one, or its first fault.

abbrev pub with_name : Known → Text → Ty → Known
with_name k n x = record k { names = k.names ++ (n, x) ∷ [] }

abbrev pub with_let : Known → Spot → ShapeForm → Ty → Known
with_let k n shape x = record {
  funs = k.funs;
  names = k.names ++ (n.text, x) ∷ [];
  codes = if is_some (lam_in shape) then k.codes + 1 else k.codes;
  loops = if is_loop shape then k.loops ++ record { position = length k.names; at = n.at } ∷ [] else k.loops;
}

-- the position of a name of the body
abbrev pub named : Known → Spot → ExprOutcome ℕ
named k n = or_fault n.at kind.Unknown (place_of n.text (names_of k.names))

-- whether a loop at this position is not tied yet
abbrev pub is_untied : Known → ℕ → Bool
is_untied k i = list_any (λ l. l.position == i) k.loops

-- the type at a position of the body
abbrev pub type_at : Known → ℕ → Option Ty
type_at k i = slice_get (types_of k.names) i

abbrev pub same_type : Option Ty → Option Ty → Bool
same_type (Some x) (Some y) = ty_eq x y
same_type _ _ = false

-- the position of a loop that is not tied yet
abbrev pub loop_of : Known → Spot → ExprOutcome ℕ
loop_of k l = do
  i ← named k l
  _ ← fault_if (not (is_untied k i)) l.at kind.Tied
  Ok i

-- the position of a name of the type of position i
abbrev pub target_of : Known → Spot → ℕ → ExprOutcome ℕ
target_of k x i = do
  j ← named k x
  _ ← fault_if (not (same_type (type_at k j) (type_at k i))) x.at kind.Type
  Ok j

-- a loop and what it is tied to
abbrev pub tying : Known → Spot → Spot → ExprOutcome (ℕ × ℕ)
tying k l x = do
  i ← loop_of k l
  j ← target_of k x i
  Ok (i, j)

abbrev pub item_known : Known → ItemForm → ExprOutcome Known
item_known k (Sink n ty) = do
  _ ← unless_taken (names_of k.names) n
  a ← type_written ty
  Ok (with_name k n.text (t.Stream a))
item_known k (Let n shape) = do
  _ ← unless_taken (names_of k.names) n
  a ← shape_typing k.funs k.names shape.form
  Ok (with_let k n shape.form a)
item_known k (Tie l x) = do
  ij ← tying k l x
  Ok (record k { loops = filter (λ m. not (m.position == ij.0)) k.loops })
item_known k _ = Ok k

-- Functions.

-- names after these with their written types
abbrev pub params : List Named → List Param → ExprOutcome (List Named)
params ns [] = Ok ns
params ns (p ∷ ps) = do
  _ ← unless_taken (names_of ns) p.name
  a ← type_written p.ty
  params (ns ++ (p.name.text, a) ∷ []) ps

-- the last of these is the argument's
abbrev pub fun_known : Known → Function → ExprOutcome Known
fun_known k f = do
  _ ← unless_taken (fun_names k.funs) f.name
  kept ← params [] f.kept
  _ ← unless_taken (names_of kept) f.arg.name
  a ← type_written f.arg.ty
  b ← typing k.funs f.e (kept ++ (f.arg.name.text, a) ∷ [])
  Ok (record k { funs = k.funs ++ (f.name.text, types_of kept, a, b) ∷ [] })

-- Declarations: what is known after one, or its first fault. Templates come later.
abbrev pub declared : Known → Decl → ExprOutcome Known
declared k (d.Function f) = fun_known k f
declared k (d.Item i) = item_known k i.form
declared k (d.Template x) = Ok k

abbrev pub all_declared : Known → List Decl → ExprOutcome Known
all_declared k [] = Ok k
all_declared k (d ∷ ds) = declared k d >>= λ m. all_declared m ds
