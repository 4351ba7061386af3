-- The nodes that the lines of a body make, with their references: those of the file, and those of an instance of a template.
use Rattle.std.specs.Prelude.{ℕ, ◌+◌, List, [], ◌∷◌, ◌++◌, map, length, take, Option, Some, None, option_map, option_and_then, slice_get, slice_index_or, if◌then◌else◌}
use Rattle.frp_base.specs.declared.name.Name.{Name}
use Rattle.frp_base.specs.declared.time.Time.{Time}
use Rattle.frp_base.specs.declared.ty.Ty.{Ty, out-Ty}
use Rattle.frp_base.specs.declared.ty.Ty.TheOpen.{Ty-F}
use Rattle.frp_base.specs.declared.ty.Ty.TheOpen as t
use Rattle.frp_base.specs.declared.val.Val.{Val}
use Rattle.frp_base.specs.declared.val.Val.TheVariants as v
use Rattle.frp_base.specs.Time.{time_eq}
use Rattle.frp_base.specs.Name.{name_eq, declared_name, made_name, maker}
use Rattle.frp_expr.specs.declared.expr.Expr.{Expr}
use Rattle.frp_expr.specs.Eval.{eval}
use Rattle.frp_expr.specs.Parts.{zero_val}
use Rattle.frp_expr.specs.Typing.{◌>>=◌}
use Rattle.frp_graph.specs.declared.trace.Node as trace
use Rattle.frp_graph.specs.declared.prog.Prog.{Prog}
use Rattle.frp_graph.specs.declared.prog.Line3.{Line3}
use Rattle.frp_graph.specs.declared.prog.Line3.TheVariants.{Node, Get}
use Rattle.frp_graph.specs.declared.prog.LineLam.{LineLam}
use Rattle.frp_graph.specs.declared.prog.LineShape.{LineShape}
use Rattle.frp_graph.specs.declared.prog.LineShape.TheVariants as l
use Rattle.frp_graph.specs.declared.shape.Lam.{Lam}
use Rattle.frp_graph.specs.declared.shape.Shape.{Shape}
use Rattle.frp_graph.specs.declared.shape.Shape.TheVariants as s
use Rattle.frp_graph.specs.Trace.{Sight}
use Rattle.frp_graph.specs.Roles.{execution}
use Rattle.frp_graph.specs.Applied.{target}

-- the time of the build
abbrev pub build : Time
build = 0 ∷ []

-- the reference to a node of this type
abbrev pub reference_in : Ty-F Ty → Name → Val
reference_in (t.Cell a) n = v.Cell n
reference_in t.Int n = v.Stream n
reference_in t.Bool n = v.Stream n
reference_in t.Text n = v.Stream n
reference_in (t.Pair a b) n = v.Stream n
reference_in (t.List a) n = v.Stream n
reference_in (t.Stream a) n = v.Stream n
reference_in (t.Fun a b) n = v.Stream n
reference_in (t.Option a) n = v.Stream n

abbrev pub reference : Ty → Name → Val
reference x n = reference_in (out-Ty x) n

-- A node as a line plans it: without its first value, but where that is given.
pub record Plan : Type 0 where
  pub name : Name
  pub shape : Shape
  pub ty : Ty
  pub given : Option Val

-- an expression of the program with its kept values
abbrev pub lam_of : List Val → LineLam → Lam
lam_of vs f = record { code = f.code; kept = map (λ i. slice_index_or vs i zero_val) f.kept }

-- the node that an operand refers to
abbrev pub node_of : List Val → Expr → Name
node_of vs e = target (eval e vs)

-- The shape of a line over the values before it; what a loop is tied to is one of all the values of the body.
abbrev pub shape_of : List Val → List Val → LineShape → Shape
shape_of all vs l.Sink = s.Sink
shape_of all vs l.Never = s.Never
shape_of all vs (l.Constant o) = s.Constant
shape_of all vs (l.Map f a) = s.Map (lam_of vs f) (node_of vs a)
shape_of all vs (l.Filter f a) = s.Filter (lam_of vs f) (node_of vs a)
shape_of all vs (l.Filteropt a) = s.Filteropt (node_of vs a)
shape_of all vs (l.Merge f a b) = s.Merge (lam_of vs f) (node_of vs a) (node_of vs b)
shape_of all vs (l.Snapshot f a c) = s.Snapshot (lam_of vs f) (node_of vs a) (node_of vs c)
shape_of all vs (l.Split a) = s.Split (node_of vs a)
shape_of all vs (l.Updates c) = s.Updates (node_of vs c)
shape_of all vs (l.Value c) = s.Value (node_of vs c)
shape_of all vs (l.Loop to) = s.Loop (target (slice_index_or all to zero_val))
shape_of all vs (l.Hold o a) = s.Hold (node_of vs a)
shape_of all vs (l.Mapc f c) = s.Mapc (lam_of vs f) (node_of vs c)
shape_of all vs (l.Apply cf ca) = s.Apply (node_of vs cf) (node_of vs ca)
shape_of all vs (l.Switchs c) = s.Switchs (node_of vs c)
shape_of all vs (l.Switchc c) = s.Switchc (node_of vs c)
shape_of all vs (l.Execute a k kept) = s.Execute (node_of vs a) k (map (λ e. eval e vs) kept)

-- the expression of the first value that a line gives its node
abbrev pub given_expr : LineShape → Option Expr
given_expr (l.Constant o) = Some o
given_expr (l.Hold o a) = Some o
given_expr l.Sink = None
given_expr l.Never = None
given_expr (l.Map f a) = None
given_expr (l.Filter f a) = None
given_expr (l.Filteropt a) = None
given_expr (l.Merge f a b) = None
given_expr (l.Snapshot f a c) = None
given_expr (l.Split a) = None
given_expr (l.Updates c) = None
given_expr (l.Value c) = None
given_expr (l.Loop to) = None
given_expr (l.Mapc f c) = None
given_expr (l.Apply cf ca) = None
given_expr (l.Switchs c) = None
given_expr (l.Switchc c) = None
given_expr (l.Execute a k kept) = None

abbrev pub given_by : List Val → LineShape → Option Val
given_by vs shape = option_map (λ e. eval e vs) (given_expr shape)

-- The k-th node that the lines of a body make has this name.
module _ (name : ℕ → Name) where
  -- The values of a body, after these: for each line its node's reference, or the value before of the cell that is got; none
  -- where there is no such value.
  abbrev pub values_from : (Name → Option Val) → ℕ → List Val → List Line3 → Option (List Val)
  values_from pre k vs [] = Some vs
  values_from pre k vs (Node x shape ∷ ls) = values_from pre (k + 1) (vs ++ reference x (name k) ∷ []) ls
  values_from pre k vs (Get c ∷ ls) = option_and_then (λ a. values_from pre k (vs ++ a ∷ []) ls) (pre (node_of vs c))

  -- The nodes of lines of which the first comes after n of all the values of the body.
  abbrev pub plans_from : List Val → ℕ → ℕ → List Line3 → List Plan
  plans_from all k n [] = []
  plans_from all k n (Node x shape ∷ ls) =
      record { name = name k; shape = shape_of all (take n all) shape; ty = x; given = given_by (take n all) shape } ∷ plans_from all (k + 1) (n + 1) ls
  plans_from all k n (Get c ∷ ls) = plans_from all k (n + 1) ls

-- the nodes of the file
abbrev pub file_plans : Prog → List Plan
file_plans prog = over (values_from declared_name (λ n. None) 0 [] prog.body.lines) where
  over : Option (List Val) → List Plan
  over None = []
  over (Some all) = plans_from declared_name all 0 0 prog.body.lines

-- how many nodes these lines make
abbrev pub size_of : List Line3 → ℕ
size_of [] = 0
size_of (Node x shape ∷ ls) = size_of ls + 1
size_of (Get c ∷ ls) = size_of ls

-- An instance of a template: its nodes, and what it gives.
pub record Instance : Type 0 where
  pub nodes : List Plan
  pub result : Val

-- The instance of a template that the node of name n makes, seen so, of the value a with these kept values; none where a
-- cell that is got has no value.
abbrev pub instance : Prog → Sight → Name → ℕ → List Val → Val → Option Instance
instance prog w n template kept a = do
  body ← slice_get prog.templates template
  all ← values_from (made_name n w.time) w.pre 0 (a ∷ kept) body.lines
  e ← body.give
  Some (record { nodes = plans_from (made_name n w.time) all 0 (length kept + 1) body.lines; result = eval e all })

-- the instance that a node of this name and shape makes, seen so: an execute makes one where its source fires, and only an execute does
abbrev pub instance_in : Prog → Sight → Name → Shape → Option Instance
instance_in prog w n shape = option_and_then (λ e. option_and_then (instance prog w n e.template e.kept) (w.occ e.source)) (execution shape)

abbrev pub plans_of : Option Instance → List Plan
plans_of None = []
plans_of (Some i) = i.nodes

-- the nodes that a node makes
abbrev pub plans_by : Prog → Sight → trace.Node → List Plan
plans_by prog w x = plans_of (instance_in prog w x.name x.shape)

-- the one of this name
abbrev pub plan_in : List Plan → Name → Option Plan
plan_in [] n = None
plan_in (d ∷ ds) n = if name_eq d.name n then Some d else plan_in ds n

-- The node of a name as it is made, seen so. Its name says by whom: the file makes it at the build, or the node that is its
-- maker.
abbrev pub plan_as : Prog → Sight → Name → Option Plan
plan_as prog w n = by (maker n) where
  by : Option Name → Option Plan
  by None = if time_eq w.time build then plan_in (file_plans prog) n else None
  by (Some e) = option_and_then (λ x. plan_in (plans_by prog w x) n) (w.node e)
