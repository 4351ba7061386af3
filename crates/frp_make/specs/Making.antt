-- What is made at a time: nodes as they were planned, with their first values, or a closed chain of Birth among them.
use Rattle.std.specs.Prelude.{◌≡◌, ℕ, true, false, List, Option, Some, None, IsTrue, is_some, option_and_then}
use Rattle.std.specs.List.{AllByRecursion}
use Rattle.frp_base.specs.declared.name.Name.{Name}
use Rattle.frp_base.specs.declared.ty.Ty.{Ty}
use Rattle.frp_base.specs.declared.ty.Ty.TheVariants as t
use Rattle.frp_base.specs.declared.val.Val.{Val}
use Rattle.frp_base.specs.Name.{made_name}
use Rattle.frp_graph.specs.declared.trace.Node.{Node}
use Rattle.frp_graph.specs.declared.prog.Prog.{Prog}
use Rattle.frp_graph.specs.declared.evidence.Phase.TheVariants.{Birth}
use Rattle.frp_graph.specs.Trace.{Sight, or_else, node_in}
use Rattle.frp_graph.specs.Roles.{Execution, execution}
use Rattle.frp_graph.specs.Births.{Plan, Instance, instance}
use Rattle.frp_graph.specs.FirstValues.{AreBorn}
use Rattle.frp_graph.specs.Links.{is_linked, is_closed_chain}
use Rattle.frp_graph.specs.Values.{type_among, is_value}
use Rattle.frp_graph.specs.WellFormed.{IsWellFormed, HasFirsts}
use Rattle.frp_graph.specs.Evidence.{LeadsToChain}
use Rattle.frp_make.specs.declared.made.FirstOut as first
use Rattle.frp_make.specs.declared.made.MakeOut as make

-- What is seen where these nodes are born beside those that are live, before anything occurs: the value before of each of them is
-- its first value.
abbrev pub before_of : Option Node → Option Val → Option Val
before_of None earlier = earlier
before_of (Some x) earlier = x.first

abbrev pub with_born : Sight → List Node → Sight
with_born w nodes = record {
  time = w.time;
  node = λ n. or_else (node_in nodes n) (w.node n);
  occ = λ n. None;
  pre = λ n. before_of (node_in nodes n) (w.pre n);
  above = λ n. None;
}

-- Nodes are born as they were planned, one by one, and the graph with them is well formed.
pub record AreMade (prog : Prog) (w : Sight) (plans : List Plan) (nodes : List Node) : Type 0 where
  pub born : AreBorn prog (with_born w nodes) plans nodes
  pub formed : IsWellFormed prog (with_born w nodes)

-- They close no chain of Birth: there are those alone that were there before. Each cell has its first value.
pub record AreWhole (w : Sight) (nodes : List Node) : Type 0 where
  pub chains : (names : List Name) → is_closed_chain (is_linked (with_born w nodes) Birth) names ≡ true → is_closed_chain (is_linked w Birth) names ≡ true
  pub firsts : HasFirsts (with_born w nodes)

-- They have this closed chain of Birth. Where there was none before, a node that is on one, or leads to one, has no first value.
pub record AreChained (w : Sight) (nodes : List Node) (names : List Name) : Type 0 where
  pub closed : is_closed_chain (is_linked (with_born w nodes) Birth) names ≡ true
  pub new : AllByRecursion (λ n. IsTrue (is_some (node_in nodes n))) names
  pub missing : ((before : List Name) → is_closed_chain (is_linked w Birth) before ≡ false)
      → AllByRecursion (λ x. LeadsToChain (is_linked (with_born w nodes) Birth) x.name → x.first ≡ None) nodes

-- Instances.

-- the node of a name is an execute, and the value is of its source's type
pub record CanMake (prog : Prog) (w : Sight) (n : Name) (v : Val) : Type 0 where
  pub node : Node
  pub live : w.node n ≡ Some node
  pub made : Execution
  pub executes : execution node.shape ≡ Some made
  pub item : Ty
  pub source : type_among w.node made.source ≡ Some (t.Stream item)
  pub fits : IsTrue (is_value prog w.node v item)

-- no node is live that it would make now
abbrev pub HasNotMade : Sight → Name → Type 0
HasNotMade w n = (k : ℕ) → w.node (made_name n w.time k) ≡ None

-- the instance that the node of a name makes of a value
abbrev pub instance_of : Prog → Sight → Name → Val → Option Instance
instance_of prog w n v = option_and_then (λ x. option_and_then (λ e. instance prog w x.name e.template e.kept v) (execution x.shape)) (w.node n)

abbrev pub IsMakeOut : Prog → Sight → Option Instance → make.MakeOut → Type 0
IsMakeOut prog w None out = ⊥
IsMakeOut prog w (Some i) (make.TheVariants.Made m) = AreMade prog w i.nodes m.nodes × AreWhole w m.nodes × (m.result ≡ i.result)
IsMakeOut prog w (Some i) (make.TheVariants.Chain nodes names) = AreMade prog w i.nodes nodes × AreChained w nodes names

-- The nodes of these plans, as those of the file.

abbrev pub IsFirstOut : Prog → Sight → List Plan → first.FirstOut → Type 0
IsFirstOut prog w plans (first.TheVariants.Made nodes) = AreMade prog w plans nodes × AreWhole w nodes
IsFirstOut prog w plans (first.TheVariants.Chain nodes names) = AreMade prog w plans nodes × AreChained w nodes names
