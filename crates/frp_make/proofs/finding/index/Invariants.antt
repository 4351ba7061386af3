use Rattle.std.proofs.Common.{◌≡◌, ◌<◌, ℕ, Some}
use Rattle.std.specs.Prelude.{slice_get}
use Rattle.std.specs.BTreeMap.{get}
use Rattle.frp_base.specs.declared.name.Name.{Name}
use Rattle.frp_base.specs.Name.{name_cmp}
use Rattle.frp_graph.specs.declared.trace.Node.{Node}
use Rattle.frp_make.proofs.finding.index.Given as goal

abbrev pub invariant-loop-place : goal.invariant-loop-place
invariant-loop-place l = record {
  found : (n : Name) (i : ℕ) → get name_cmp l.index n ≡ Some i → (x : Node) × (slice_get l.nodes i ≡ Some x) × (x.name ≡ n);
  all : (i : ℕ) (x : Node) → i < l.place → slice_get l.nodes i ≡ Some x → get name_cmp l.index x.name ≡ Some i;
}
