-- Laws of the shapes: what a row, a first value, an instance and a link look at, and which types they have.
use Rattle.std.specs.Prelude.{◌≡◌, ◌⊎◌, ℕ, Bool, List, [], ◌∷◌, ◌++◌, length, Option, Some, None, slice_get, IsTrue}
use Rattle.std.specs.List.{AllByRecursion, list_any}
use Rattle.frp_base.specs.declared.name.Name.{Name}
use Rattle.frp_base.specs.declared.ty.Ty.{Ty}
use Rattle.frp_base.specs.declared.val.Val.{Val}
use Rattle.frp_base.specs.declared.val.Val.TheOpen.{Val-F}
use Rattle.frp_base.specs.declared.val.Val.TheOpen as v
use Rattle.frp_base.specs.declared.val.Val.TheFolds.{fold-Val}
use Rattle.frp_base.specs.Name.{name_eq, maker}
use Rattle.frp_expr.specs.declared.expr.Expr.{Expr}
use Rattle.frp_expr.specs.Eval.{eval}
use Rattle.frp_graph.specs.declared.trace.Node as trace
use Rattle.frp_graph.specs.declared.trace.Sent.{Sent}
use Rattle.frp_graph.specs.declared.prog.Body.{Body}
use Rattle.frp_graph.specs.declared.prog.Prog.{Prog}
use Rattle.frp_graph.specs.declared.prog.Line3.TheVariants.{Node}
use Rattle.frp_graph.specs.declared.prog.LineShape.{LineShape}
use Rattle.frp_graph.specs.declared.shape.Shape.{Shape}
use Rattle.frp_graph.specs.declared.evidence.Phase.{Phase}
use Rattle.frp_graph.specs.declared.evidence.Phase.TheVariants.{During}
use Rattle.frp_graph.specs.Trace.{Sight, post_in}
use Rattle.frp_graph.specs.Applied.{target}
use Rattle.frp_graph.specs.TypedProg.{sigs, patterns, is_typed_line}
use Rattle.frp_graph.specs.Values.{type_among, are_values}
use Rattle.frp_graph.specs.WellFormed.{seen_fits, fits_cell, Allows, IsWellFormed, HasFirsts}
use Rattle.frp_graph.specs.Roles.{Execution, execution}
use Rattle.frp_graph.specs.Births.{Instance, shape_of, given_by, file_plans, size_of, instance, instance_in, plans_by}
use Rattle.frp_graph.specs.Sends.{sent_in}
use Rattle.frp_graph.specs.Equations.{row}
use Rattle.frp_graph.specs.FirstValues.{first_value}
use Rattle.frp_graph.specs.Links.{targets, operands, links, links_by}
use Rattle.frp_graph.specs.Evidence.{has_reads}

-- What is looked at.

-- what is there of the one at a name, and at every name, is there of the other
abbrev pub StaysAt : {A : Type 0} → (Name → Option A) → (Name → Option A) → Name → Type 0
StaysAt {A} few many n = (x : A) → few n ≡ Some x → many n ≡ Some x

abbrev pub Stays : {A : Type 0} → (Name → Option A) → (Name → Option A) → Type 0
Stays few many = (n : Name) → StaysAt few many n

-- An instance that is there stays as it is where more values before are there.
abbrev pub InstancesStay : Type 0
InstancesStay = (prog : Prog) (w u : Sight) (n : Name) (template : ℕ) (kept : List Val) (a : Val) (i : Instance)
    → u.time ≡ w.time → Stays w.pre u.pre → instance prog w n template kept a ≡ Some i → instance prog u n template kept a ≡ Some i

-- the values before of a shape's operands, and of the nodes that their values after refer to, stay
abbrev pub ReadsStay : Sight → Sight → Shape → Type 0
ReadsStay w u s = AllByRecursion (λ c. StaysAt w.pre u.pre c × AllByRecursion (StaysAt w.pre u.pre) (targets (post_in w c))) (operands s)

-- A row looks only at the occurrences of the nodes that its links of During lead to, at the values before of its operands and
-- of the nodes that these hold, at the instance that it makes, at the occurrences of its operands at the parent of the time,
-- and at what is sent to its own node.
abbrev pub RowsAgree : Type 0
RowsAgree = (prog : Prog) (sends others : List Sent) (w u : Sight) (x : trace.Node)
    → u.time ≡ w.time
    → AllByRecursion (λ n. u.occ n ≡ w.occ n) (links w During x)
    → ReadsStay w u x.shape
    → instance_in prog u x.name x.shape ≡ instance_in prog w x.name x.shape
    → AllByRecursion (λ n. u.above n ≡ w.above n) (operands x.shape)
    → sent_in prog others w.time x.name ≡ sent_in prog sends w.time x.name
    → IsTrue (has_reads prog w x x.shape)
    → row prog others u x x.shape ≡ row prog sends w x x.shape

-- A link leads to an operand, to the node that an operand's value before or after refers to, or to the maker of its node.
pub record IsHeld (few : List Name) (value : Name → Option Val) (n : Name) : Type 0 where
  pub cell : Name
  pub is_operand : IsTrue (list_any (λ k. name_eq k cell) few)
  pub held : Val
  pub has_held : value cell ≡ Some held
  pub refers : target held ≡ n

abbrev pub LinksLead : Type 0
LinksLead = (w : Sight) (after : Name → Option Val) (phase : Phase) (x : trace.Node) (n : Name)
    → IsTrue (list_any (λ k. name_eq k n) (links_by w after phase x))
    → IsTrue (list_any (λ k. name_eq k n) (operands x.shape))
    ⊎ (IsHeld (operands x.shape) w.pre n ⊎ (IsHeld (operands x.shape) after n ⊎ (maker x.name ≡ Some n)))

-- the names of the nodes that a value refers to, in it and in its parts
abbrev pub all_names : List (List Name) → List Name
all_names [] = []
all_names (ns ∷ more) = ns ++ all_names more

abbrev pub names_step : Val-F (List Name) → List Name
names_step (v.Int z) = []
names_step (v.Bool b) = []
names_step (v.Text s) = []
names_step (v.Pair a b) = a ++ b
names_step (v.List xs) = all_names xs
names_step (v.Stream n) = n ∷ []
names_step (v.Cell n) = n ∷ []
names_step (v.Fun f xs) = all_names xs
names_step v.Absent = []
names_step (v.Present a) = a

abbrev pub names_in : Val → List Name
names_in = fold-Val (List Name) names_step

abbrev pub names_among : List Val → List Name
names_among [] = []
names_among (x ∷ xs) = names_in x ++ names_among xs

-- The names in what an expression gives are names in its arguments.
abbrev pub NamesAreGiven : Type 0
NamesAreGiven = (e : Expr) (vs : List Val) (n : Name) → IsTrue (list_any (λ k. name_eq k n) (names_in (eval e vs))) → IsTrue (list_any (λ k. name_eq k n) (names_among vs))

-- A file's body whose lines all make nodes makes as many as it has lines.
abbrev pub FilesAreWhole : Type 0
FilesAreWhole = (prog : Prog) → size_of prog.body.lines ≡ length prog.body.lines → length (file_plans prog) ≡ length prog.body.lines

-- Types.

-- What a shape allows stays so where more nodes are live.
abbrev pub AllowedStays : Type 0
AllowedStays = (prog : Prog) (w u : Sight) (x : Ty) (shape : Shape)
    → Stays (type_among w.node) (type_among u.node) → Allows prog w x shape → Allows prog u x shape

-- The node of a typed line, over values of their types among the live nodes, has a shape that its type allows, and the first
-- value that the line gives is of its type.
pub record IsAllowedLine (prog : Prog) (w : Sight) (all vs : List Val) (x : Ty) (shape : LineShape) : Type 0 where
  pub allowed : Allows prog w x (shape_of all vs shape)
  pub given_fits : (n : Name) (s : Shape) → IsTrue (fits_cell prog w (record { name = n; shape = s; ty = x; first = None }) (given_by vs shape))

abbrev pub LinesAreAllowed : Type 0
LinesAreAllowed = (prog : Prog) (w : Sight) (all vs : List Val) (all_types types : List Ty) (made : List ℕ) (x : Ty) (shape : LineShape)
    → IsTrue (are_values prog w.node all all_types)
    → IsTrue (are_values prog w.node vs types)
    → IsTrue (is_typed_line (sigs prog) prog.codes (patterns prog) all_types types made (Node x shape))
    → IsAllowedLine prog w all vs x shape

-- In a well-formed graph, where what is sent to a node is of its type and what it makes is live, a row gives a value that its
-- node holds.
abbrev pub RowsAreTyped : Type 0
RowsAreTyped = (prog : Prog) (sends : List Sent) (w : Sight) (n : Name) (x : trace.Node)
    → IsWellFormed prog w → w.node n ≡ Some x
    → IsTrue (seen_fits prog w x (sent_in prog sends w.time x.name))
    → AllByRecursion (λ d. type_among w.node d.name ≡ Some d.ty) (plans_by prog w x)
    → IsTrue (seen_fits prog w x (row prog sends w x x.shape))

-- In a well-formed graph a first value is one that its node holds, where the one that is given is.
abbrev pub FirstsAreTyped : Type 0
FirstsAreTyped = (prog : Prog) (w : Sight) (given : Option Val) (x : trace.Node)
    → IsWellFormed prog w → Allows prog w x.ty x.shape
    → IsTrue (fits_cell prog w x given)
    → IsTrue (fits_cell prog w x (first_value prog w given x.shape))

-- In a well-formed graph with first values each execute whose source fires makes an instance, which has as many nodes as its
-- template makes.
pub record IsInstance (prog : Prog) (w : Sight) (x : trace.Node) (e : Execution) : Type 0 where
  pub body : Body
  pub is_template : slice_get prog.templates e.template ≡ Some body
  pub instance : Instance
  pub made : instance_in prog w x.name x.shape ≡ Some instance
  pub size : length instance.nodes ≡ size_of body.lines

abbrev pub InstancesAreThere : Type 0
InstancesAreThere = (prog : Prog) (w : Sight) (n : Name) (x : trace.Node) (e : Execution) (v : Val)
    → IsWellFormed prog w → HasFirsts w → w.node n ≡ Some x → execution x.shape ≡ Some e → w.occ e.source ≡ Some v
    → IsInstance prog w x e

-- In a well-formed graph with first values no row misses a value that it reads.
abbrev pub ReadsAreThere : Type 0
ReadsAreThere = (prog : Prog) (w : Sight) (n : Name) (x : trace.Node)
    → IsWellFormed prog w → HasFirsts w → w.node n ≡ Some x → IsTrue (has_reads prog w x x.shape)
