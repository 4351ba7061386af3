use Rattle.std.proofs.Common.{◌≡◌, vec_len}
use Rattle.frp_store.specs.Lists.{nodes_of}
use Rattle.frp_store.specs.Undo.{given}
use Rattle.frp_store.specs.Kept.{IsFindable}
use Rattle.frp_store.proofs.tables.Tables.give_back.Given as goal

abbrev pub invariant-loop-fact : goal.invariant-loop-fact
invariant-loop-fact l = record {
  findable : IsFindable (nodes_of l.self.held.items) l.self.edges.index;
  held : given l.facts.items l.self.held.items ≡ given l.fn.facts.items l.fn.self.held.items;
  rest : l.self ≡ record l.fn.self { held = l.self.held };
}

abbrev pub decreases-loop-fact : goal.decreases-loop-fact
decreases-loop-fact l = vec_len l.facts
