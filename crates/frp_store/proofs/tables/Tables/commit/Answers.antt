use Rattle.std.proofs.Common.{[], refl}
use Rattle.frp_store.specs.Lists.{lists_of}
use Rattle.frp_store.proofs.Keeping.{kept_now}
use Rattle.frp_store.proofs.tables.Tables.commit.Goals as goal

pub forget_known-requires : goal.forget_known-requires
forget_known-requires c = let s = c.args.self.now in record { kept = kept_now s.changes.items [] (lists_of s) s.edges refl c.requires.kept }
