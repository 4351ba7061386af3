-- What a trace says of a node: whether it is live, its occurrence, and a cell's value before and after a time.
use Rattle.std.specs.Prelude.{◌≡◌, ℕ, List, [], ◌∷◌, ◌++◌, Option, Some, None, option_and_then, filter, if◌then◌else◌}
use Rattle.std.specs.Ordering.{is_lt}
use Rattle.frp_base.specs.declared.time.Time.{Time}
use Rattle.frp_base.specs.declared.name.Name.{Name}
use Rattle.frp_base.specs.declared.val.Val.{Val}
use Rattle.frp_base.specs.Time.{time_eq, time_cmp, parent_and_number}
use Rattle.frp_base.specs.Name.{name_eq}
use Rattle.frp_graph.specs.declared.trace.Node.{Node}
use Rattle.frp_graph.specs.declared.trace.Fact.{Fact}
use Rattle.frp_graph.specs.declared.trace.Moment.{Moment}

-- the first of two that is there
abbrev pub or_else : {A : Type 0} → Option A → Option A → Option A
or_else None b = b
or_else (Some a) b = Some a

-- the value of the node's fact, and the node of a name
abbrev pub fact_in : List Fact → Name → Option Val
fact_in [] n = None
fact_in (f ∷ fs) n = if name_eq f.node n then Some f.value else fact_in fs n

abbrev pub node_in : List Node → Name → Option Node
node_in [] n = None
node_in (x ∷ xs) n = if name_eq x.name n then Some x else node_in xs n

-- the nodes that are live after these moments
abbrev pub live : List Moment → List Node
live [] = []
live (m ∷ ms) = m.born ++ live ms

-- the moments before a time
abbrev pub moments_before : Time → List Moment → List Moment
moments_before t ms = filter (λ m. is_lt (time_cmp m.time t)) ms

-- the moment at a time
abbrev pub moment_at : List Moment → Time → Option Moment
moment_at [] t = None
moment_at (m ∷ ms) t = if time_eq m.time t then Some m else moment_at ms t

-- the occurrence of a stream, or the step of a cell, at a moment
abbrev pub occ : Moment → Name → Option Val
occ m n = fact_in m.fired n

abbrev pub node_first : Node → Option Val
node_first x = x.first

-- A cell's value before a moment is its first value where it is born then, else its value after the moments before.
abbrev pub pre_from : Option Val → Moment → Name → Option Val
pre_from earlier m c = or_else (option_and_then node_first (node_in m.born c)) earlier

-- a step changes the value of what has one; a stream, which has no first value, never has one
abbrev pub stepped : Option Val → Option Val → Option Val
stepped None step = None
stepped (Some v) step = or_else step (Some v)

abbrev pub value_at : Option Val → Moment → Name → Option Val
value_at earlier m c = stepped (pre_from earlier m c) (occ m c)

-- a cell's value after these moments, where it had this one before them
abbrev pub value_from : Option Val → List Moment → Name → Option Val
value_from v [] c = v
value_from v (m ∷ ms) c = value_from (value_at v m c) ms c

-- a cell's value after the moments of a trace
abbrev pub value_after : List Moment → Name → Option Val
value_after ms c = value_from None ms c

-- a cell's value before moment m, and after it, where m comes after these moments
abbrev pub pre : List Moment → Moment → Name → Option Val
pre past m c = pre_from (value_after past c) m c

abbrev pub post : List Moment → Moment → Name → Option Val
post past m c = or_else (occ m c) (pre past m c)

-- What is seen of a graph at a time: the live nodes, occurrences and steps, cells' values before, and occurrences at the
-- parent of the time.
pub record Sight : Type 0 where
  pub time : Time
  pub node : Name → Option Node
  pub occ : Name → Option Val
  pub pre : Name → Option Val
  pub above : Name → Option Val

-- what holds of each live node
abbrev pub Each : Sight → (Node → Type 0) → Type 0
Each w P = (n : Name) (x : Node) → w.node n ≡ Some x → P x

-- a cell's value after the time
abbrev pub post_in : Sight → Name → Option Val
post_in w c = or_else (w.occ c) (w.pre c)

-- the occurrence at the parent of a time, where the time has one
abbrev pub occ_above : List Moment → Time → Name → Option Val
occ_above past t n = option_and_then (λ m. occ m n) (option_and_then (λ (p : Time × ℕ). moment_at past p.0) (parent_and_number t))

-- what a trace shows at moment m, after these moments
abbrev pub sight_of : List Moment → Moment → Sight
sight_of past m = record {
  time = m.time;
  node = node_in (live (past ++ m ∷ []));
  occ = occ m;
  pre = pre past m;
  above = occ_above past m.time;
}
