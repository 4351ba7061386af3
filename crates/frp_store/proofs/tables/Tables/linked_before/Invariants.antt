use Rattle.std.proofs.Common.{◌≡◌, take}
use Rattle.std.specs.Prelude.{◌&&◌, slice_get}
use Rattle.frp_store.specs.Places.{ArePlaces, has, numbers}
use Rattle.frp_store.specs.Edges.{links_to}
use Rattle.frp_store.specs.Lists.{nodes_of}
use Rattle.frp_store.proofs.tables.Tables.linked_before.Given as goal

abbrev pub invariant-loop-place : goal.invariant-loop-place
invariant-loop-place l = record {
  all : numbers l.place-items ≡ l.self.edges.wanting.items;
  places : ArePlaces l.nodes.items (λ p. has (take l.place-index (numbers l.place-items)) p && links_to (slice_get (nodes_of l.self.held.items) p) l.name);
}
