use Rattle.std.specs.BTreeMap.{get}
use Rattle.frp_base.specs.Name.{name_cmp}
use Rattle.frp_make.specs.Search.{state_of, work, IsSearch, AreGrown}
use Rattle.frp_make.proofs.search.Search.run.Given as goal

abbrev pub invariant-loop-place : goal.invariant-loop-place
invariant-loop-place g l = record {
  search : IsSearch (g.V.View.prog_of l.view) (g.V.View.sight l.view) (get name_cmp l.index) (state_of l.self);
  grown : AreGrown l.fn.self.nodes.items l.self.nodes.items;
}

abbrev pub decreases-loop-place : goal.decreases-loop-place
decreases-loop-place g l = work (state_of l.self)
