-- What the lines of a body need so that its nodes can be made: operands that refer to nodes, and cells that are got.
use Rattle.std.specs.Prelude.{◌≡◌, ℕ, ◌+◌, Bool, true, ◌&&◌, List, [], ◌∷◌, length, take, Option, Some, None, IsTrue, is_some, slice_index_or, ⊤}
use Rattle.frp_base.specs.declared.name.Name.{Name}
use Rattle.frp_base.specs.declared.time.Time.{Time}
use Rattle.frp_base.specs.declared.val.Val.{Val, out-Val}
use Rattle.frp_base.specs.Name.{declared_name, made_name}
use Rattle.frp_expr.specs.declared.expr.Expr.{Expr}
use Rattle.frp_expr.specs.Eval.{eval}
use Rattle.frp_expr.specs.Parts.{zero_val}
use Rattle.frp_graph.specs.declared.trace.Node as trace
use Rattle.frp_graph.specs.declared.prog.Line3.{Line3}
use Rattle.frp_graph.specs.declared.prog.Line3.TheVariants.{Node, Get}
use Rattle.frp_graph.specs.declared.prog.LineShape.{LineShape}
use Rattle.frp_graph.specs.declared.prog.LineShape.TheVariants.{Sink, Never, Constant, Map, Filter, Filteropt, Merge, Snapshot, Split, Updates, Value, Loop, Hold, Mapc, Apply, Switchs, Switchc, Execute}
use Rattle.frp_graph.specs.Births.{Plan, reference, node_of, values_from}
use Rattle.frp_fire.specs.Fires.{refers_in}

-- the name of a body's k-th node: of the file, or of the node that makes it at a time
abbrev pub name_by : Option Name → Time → ℕ → Name
name_by None time k = declared_name k
name_by (Some n) time k = made_name n time k

-- whether a value, and an operand's, refers to a node
abbrev pub is_reference : Val → Bool
is_reference v = refers_in (out-Val v)

abbrev pub refers : List Val → Expr → Bool
refers vs e = is_reference (eval e vs)

-- whether each operand of a line refers to a node
abbrev pub has_operands : List Val → List Val → LineShape → Bool
has_operands all vs Sink = true
has_operands all vs Never = true
has_operands all vs (Constant o) = true
has_operands all vs (Map f s) = refers vs s
has_operands all vs (Filter f s) = refers vs s
has_operands all vs (Filteropt s) = refers vs s
has_operands all vs (Merge f a b) = refers vs a && refers vs b
has_operands all vs (Snapshot f s c) = refers vs s && refers vs c
has_operands all vs (Split s) = refers vs s
has_operands all vs (Updates c) = refers vs c
has_operands all vs (Value c) = refers vs c
has_operands all vs (Loop to) = is_reference (slice_index_or all to zero_val)
has_operands all vs (Hold o s) = refers vs s
has_operands all vs (Mapc f c) = refers vs c
has_operands all vs (Apply cf ca) = refers vs cf && refers vs ca
has_operands all vs (Switchs c) = refers vs c
has_operands all vs (Switchc c) = refers vs c
has_operands all vs (Execute s template kept) = refers vs s

-- the node of a plan, so far with no other first value than one that is given
abbrev pub draft_of : Plan → trace.Node
draft_of d = record { name = d.name; shape = d.shape; ty = d.ty; first = d.given }

-- of the lines of a body, each of whose operands is over n of all the values, and the next: every operand refers to a node
abbrev pub AreReady : List Val → ℕ → List Line3 → Type 0
AreReady all n [] = ⊤
AreReady all n (Node x shape ∷ ls) = IsTrue (has_operands all (take n all) shape) × AreReady all (n + 1) ls
AreReady all n (Get c ∷ ls) = IsTrue (refers (take n all) c) × AreReady all (n + 1) ls

-- the value of a line, over the values before it and after k nodes; a cell that is got has one, and its operand refers to it
abbrev pub value_of : (ℕ → Name) → (Name → Option Val) → ℕ → List Val → Line3 → Option Val
value_of name pre k vs (Node x shape) = Some (reference x (name k))
value_of name pre k vs (Get c) = pre (node_of vs c)

abbrev pub HasValue : (Name → Option Val) → List Val → Line3 → Type 0
HasValue pre vs (Node x shape) = ⊤
HasValue pre vs (Get c) = IsTrue (refers vs c) × IsTrue (is_some (pre (node_of vs c)))

-- These values are all those of a body, and its lines are ready.
pub record AreAll (name : ℕ → Name) (pre : Name → Option Val) (given : List Val) (lines : List Line3) (all : List Val) : Type 0 where
  pub whole : values_from name pre 0 given lines ≡ Some all
  pub ready : AreReady all (length given) lines

abbrev pub HasAll : (ℕ → Name) → (Name → Option Val) → List Val → List Line3 → Type 0
HasAll name pre given lines = (all : List Val) × AreAll name pre given lines all
