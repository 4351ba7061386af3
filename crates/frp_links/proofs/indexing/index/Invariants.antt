use Rattle.std.proofs.Common.{◌≡◌, ◌<◌, ℕ, true, Some}
use Rattle.std.specs.Prelude.{slice_get, is_some}
use Rattle.std.specs.BTreeMap.{get}
use Rattle.frp_base.specs.declared.name.Name.{Name}
use Rattle.frp_base.specs.Name.{name_cmp}
use Rattle.frp_graph.specs.declared.trace.Node.{Node}
use Rattle.frp_links.proofs.indexing.index.Given as goal

abbrev pub invariant-loop-place : goal.invariant-loop-place
invariant-loop-place g l = record {
  found : (n : Name) (i : ℕ) → get name_cmp l.index n ≡ Some i → (x : Node) × (slice_get (g.V.View.nodes l.view) i ≡ Some x) × (x.name ≡ n);
  all : (i : ℕ) (x : Node) → i < l.place → slice_get (g.V.View.nodes l.view) i ≡ Some x → is_some (get name_cmp l.index x.name) ≡ true;
}
