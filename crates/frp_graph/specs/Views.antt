-- Views: the live nodes of what is seen, in some order.
use Rattle.std.specs.Prelude.{◌≡◌, ℕ, List, map, slice_get, Some, IsTrue}
use Rattle.std.specs.List.{AllByRecursion}
use Rattle.frp_graph.specs.declared.trace.Node.{Node}
use Rattle.frp_graph.specs.Trace.{Sight, Each}
use Rattle.frp_graph.specs.Links.{are_distinct}

-- these are the live nodes, each once
pub record AreLive (w : Sight) (nodes : List Node) : Type 0 where
  pub live : AllByRecursion (λ x. w.node x.name ≡ Some x) nodes
  pub each : Each w (λ x. (i : ℕ) × (slice_get nodes i ≡ Some x))
  pub once : IsTrue (are_distinct (map (λ x. x.name) nodes))
