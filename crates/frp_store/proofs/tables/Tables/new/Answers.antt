use Rattle.frp_store.proofs.Keeping.{empty_again}
use Rattle.frp_store.proofs.tables.Tables.new.Goals as goal

pub returns-clause-kept : goal.returns-clause-kept
returns-clause-kept c = empty_again _ _ _ _ _ c.new-5.ensures.items c.new.ensures.items c.new-2.ensures.items c.new-3.ensures.items c.new-4.ensures.lists c.new-4.ensures.wanting c.new-4.ensures.index
