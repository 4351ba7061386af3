use Rattle.frp_graph.proofs.TypedLines.{line_is_allowed}
use Rattle.frp_graph.proofs.shape_laws.lines_are_allowed.Goals as goal

pub returns : goal.returns
returns c = λ prog w all vs all_types types made x shape all_among among typed. line_is_allowed prog w all vs all_types types all_among among x shape typed
