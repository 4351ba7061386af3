-- What a legal trace has beside the equations: values of their types, no closed chain, and sizes within the limits.
use Rattle.std.specs.Prelude.{ℕ, ◌≤◌, List, IsTrue, length}
use Rattle.std.specs.List.{list_all}
use Rattle.frp_graph.specs.declared.trace.Moment.{Moment}
use Rattle.frp_graph.specs.declared.trace.Node.{Node}
use Rattle.frp_graph.specs.declared.trace.Fact.{Fact}
use Rattle.frp_graph.specs.declared.prog.Prog.{Prog}
use Rattle.frp_graph.specs.declared.limits.Limits.{Limits}
use Rattle.frp_graph.specs.Trace.{Sight, live, sight_of}
use Rattle.frp_graph.specs.Moments.{moments_of}
use Rattle.frp_graph.specs.WellFormed.{has_typed_first, is_typed_fact}
use Rattle.frp_graph.specs.Links.{IsChainless}

-- What is born and what fires at a time, seen so, has values of its type, a cell that is born has a first value, and no phase
-- has a closed chain.
pub record Sounds (prog : Prog) (w : Sight) (born : List Node) (fired : List Fact) : Type 0 where
  pub firsts : IsTrue (list_all (has_typed_first prog w) born)
  pub facts : IsTrue (list_all (is_typed_fact prog w) fired)
  pub chainless : IsChainless w

-- so it is at moment m, after the moments before it
abbrev pub IsSoundAfter : Prog → List Moment → Moment → Type 0
IsSoundAfter prog past m = Sounds prog (sight_of past m) m.born m.fired

-- No transaction has more moments than the limit, and no more nodes are live.
pub record KeepsLimits (limits : Limits) (trace : List Moment) : Type 0 where
  pub moments : (k : ℕ) → moments_of k trace ≤ limits.moments
  pub nodes : length (live trace) ≤ limits.nodes
