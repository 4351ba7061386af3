use Rattle.frp_links.specs.References.{SwitchRefers}
use Rattle.frp_store.specs.State.{sight}
use Rattle.frp_fixture.proofs.Nodes.{UpTo, HasBefore}
use Rattle.frp_fixture.proofs.reading.can_read.Given as goal

abbrev pub invariant-loop-place : goal.invariant-loop-place
invariant-loop-place l = record {
  befores : UpTo (HasBefore l.store.now) l.store.now.nodes l.place;
  switches : UpTo (λ x. SwitchRefers (sight l.store.now) x.shape) l.store.now.nodes l.place;
}
