use Rattle.std.proofs.Common.{subst}
use Rattle.frp_graph.specs.Views.{AreLive}
use Rattle.frp_store.specs.State.{Versions, sight}
use Rattle.frp_store.specs.Lists.{lists_of}
use Rattle.frp_store.specs.Kept.{state_of}
use Rattle.frp_store.proofs.Keeping.{sound_now}
use Rattle.frp_store.proofs.Showing.{are_live}
use Rattle.frp_store.proofs.view.StoreView.live.Goals as goal

pub returns-clause-each : goal.returns-clause-each
returns-clause-each c =
    let t = c.self.inside.tables in
    subst (λ (v : Versions). AreLive (sight v.now) v.now.nodes) c.self.view_is (are_live (state_of t) (sound_now t.changes.items (lists_of t) t.edges c.self.invariant.1).distinct)
