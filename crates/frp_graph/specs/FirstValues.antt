-- The nodes that are born, and the first value that a cell has at its birth, by its shape. A stream has none.
use Rattle.std.specs.Prelude.{◌≡◌, Bool, List, [], ◌∷◌, Option, Some, None, IsTrue, is_some, option_map, option_and_then, ⊤}
use Rattle.std.specs.List.{AllByRecursion, list_all}
use Rattle.frp_base.specs.declared.val.Val.{Val}
use Rattle.frp_graph.specs.declared.trace.Node.{Node}
use Rattle.frp_graph.specs.declared.prog.Prog.{Prog}
use Rattle.frp_graph.specs.declared.shape.Shape.{Shape}
use Rattle.frp_graph.specs.declared.shape.Shape.TheVariants.{Sink, Never, Constant, Map, Filter, Filteropt, Merge, Snapshot, Split, Updates, Value, Loop, Hold, Mapc, Apply, Switchs, Switchc, Execute}
use Rattle.frp_graph.specs.Trace.{Sight, Each, node_first, node_in}
use Rattle.frp_graph.specs.Applied.{call, applied, target}
use Rattle.frp_graph.specs.Births.{Plan, build, file_plans, plans_by, plan_as}

-- the first value of a node of this shape that is born at the time of the sight; some have a given one
abbrev pub first_value : Prog → Sight → Option Val → Shape → Option Val
first_value prog w given Constant = given
first_value prog w given (Hold s) = given
first_value prog w given (Mapc f c) = option_map (λ v. call prog f (v ∷ [])) (w.pre c)
first_value prog w given (Apply cf ca) = option_and_then (λ f. option_and_then (applied prog f) (w.pre ca)) (w.pre cf)
first_value prog w given (Switchc c) = option_and_then (λ d. w.pre (target d)) (w.pre c)
first_value prog w given (Loop to) = option_and_then node_first (w.node to)
first_value prog w given Sink = None
first_value prog w given Never = None
first_value prog w given (Map f s) = None
first_value prog w given (Filter f s) = None
first_value prog w given (Filteropt s) = None
first_value prog w given (Merge f a b) = None
first_value prog w given (Snapshot f s c) = None
first_value prog w given (Split s) = None
first_value prog w given (Updates c) = None
first_value prog w given (Value c) = None
first_value prog w given (Switchs c) = None
first_value prog w given (Execute s template kept) = None

-- a node is one that is planned, its first value aside
pub record IsMade (d : Plan) (x : Node) : Type 0 where
  pub name : x.name ≡ d.name
  pub shape : x.shape ≡ d.shape
  pub ty : x.ty ≡ d.ty

abbrev pub IsMadeAs : Option Plan → Node → Type 0
IsMadeAs None x = ⊥
IsMadeAs (Some d) x = IsMade d x

-- a node is born as it was planned, with its first value
pub record IsBorn (prog : Prog) (w : Sight) (d : Plan) (x : Node) : Type 0 where
  pub made : IsMade d x
  pub first : x.first ≡ first_value prog w d.given d.shape

abbrev pub IsBornAs : Prog → Sight → Option Plan → Node → Type 0
IsBornAs prog w None x = ⊥
IsBornAs prog w (Some d) x = IsBorn prog w d x

-- whether each node that is planned is born
abbrev pub are_all_born : List Node → List Plan → Bool
are_all_born born plans = list_all (λ d. is_some (node_in born d.name)) plans

-- The nodes that are born are exactly those that are made at the time: those of the file at the build, and those of the
-- instances that live nodes make; each has its first value.
pub record AreExactly (prog : Prog) (w : Sight) (born : List Node) : Type 0 where
  pub each_is_made : AllByRecursion (λ x. IsBornAs prog w (plan_as prog w x.name) x) born
  pub each_is_born : Each w (λ x. IsTrue (are_all_born born (plans_by prog w x)))
  pub file_is_born : w.time ≡ build → IsTrue (are_all_born born (file_plans prog))

-- nodes are born as they were planned, one by one
abbrev pub AreBorn : Prog → Sight → List Plan → List Node → Type 0
AreBorn prog w [] [] = ⊤
AreBorn prog w (d ∷ ds) (x ∷ xs) = IsBorn prog w d x × AreBorn prog w ds xs
AreBorn prog w _ _ = ⊥
