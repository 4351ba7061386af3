use Rattle.std.proofs.Common.{◌≡◌, take}
use Rattle.std.specs.Prelude.{filter}
use Rattle.frp_base.specs.declared.name.Name.{Name}
use Rattle.frp_graph.specs.Links.{is_new_cell}
use Rattle.frp_links.proofs.links.new_cells.Given as goal

abbrev pub invariant-loop-name : goal.invariant-loop-name
invariant-loop-name g l = l.cells ≡ filter (λ (n : Name). is_new_cell (g.V.View.sight l.view) ((g.V.View.sight l.view).node n)) (take l.name-index l.names)
