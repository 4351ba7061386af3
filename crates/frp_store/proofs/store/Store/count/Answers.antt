use Rattle.std.proofs.Common.{subst}
use Rattle.frp_store.specs.State.{Versions}
use Rattle.frp_store.specs.Lists.{lists_of}
use Rattle.frp_store.specs.Seen.{IsAligned}
use Rattle.frp_store.proofs.Keeping.{sound_now}
use Rattle.frp_store.proofs.Seeing.{sound_aligned}
use Rattle.frp_store.proofs.store.Store.count.Goals as goal

pub returns-clause-aligned : goal.returns-clause-aligned
returns-clause-aligned c =
    let t = c.self.inside.tables in
    subst (λ (v : Versions). IsAligned v.now) c.self.view_is (sound_aligned (lists_of t) (sound_now t.changes.items (lists_of t) t.edges c.self.invariant.1))
