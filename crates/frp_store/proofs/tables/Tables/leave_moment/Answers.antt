use Rattle.frp_store.specs.Lists.{lists_of}
use Rattle.frp_store.proofs.Keeping.{left_kept}
use Rattle.frp_store.proofs.tables.Tables.leave_moment.Goals as goal

pub returns-clause-kept : goal.returns-clause-kept
returns-clause-kept c = let s = c.args.self.now in left_kept s.changes.items (lists_of s) s.edges c.requires.kept
