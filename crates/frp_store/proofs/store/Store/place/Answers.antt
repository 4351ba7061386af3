use Rattle.frp_store.specs.Lists.{lists_of}
use Rattle.frp_store.proofs.Keeping.{findable_now}
use Rattle.frp_store.proofs.store.Store.place.Goals as goal

pub place-requires : goal.place-requires
place-requires c = let t = c.self.inside.tables in record { findable = findable_now t.changes.items (lists_of t) t.edges c.self.invariant.1 }
