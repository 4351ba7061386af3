use Rattle.std.proofs.Common.{◌≡◌, take}
use Rattle.std.specs.BTreeMap.{get}
use Rattle.frp_base.specs.Name.{name_cmp}
use Rattle.frp_links.specs.Places.{rows_of}
use Rattle.frp_links.proofs.indexing.rows.Given as goal

abbrev pub invariant-loop-place : goal.invariant-loop-place
invariant-loop-place g l = l.rows ≡ rows_of (g.V.View.sight l.view) l.phase (get name_cmp l.index) (take l.place (g.V.View.nodes l.view))
