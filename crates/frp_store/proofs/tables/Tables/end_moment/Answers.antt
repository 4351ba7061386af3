use Rattle.frp_store.specs.Lists.{lists_of}
use Rattle.frp_store.proofs.Keeping.{sound_now}
use Rattle.frp_store.proofs.tables.Tables.end_moment.Goals as goal

pub born-requires-clause-distinct : goal.born-requires-clause-distinct
born-requires-clause-distinct c = let s = c.args.self.now in (sound_now s.changes.items (lists_of s) s.edges c.requires.kept).distinct

pub born-requires-clause-first : goal.born-requires-clause-first
born-requires-clause-first c = let s = c.args.self.now in (sound_now s.changes.items (lists_of s) s.edges c.requires.kept).first

pub closings-requires : goal.closings-requires
closings-requires c = let s = c.args.self.now in record { inside = (sound_now s.changes.items (lists_of s) s.edges c.requires.kept).inside }
