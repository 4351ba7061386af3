use Rattle.frp_graph.proofs.TypedRows.{row_typed}
use Rattle.frp_graph.proofs.shape_laws.rows_are_typed.Goals as goal

pub returns : goal.returns
returns c = λ prog sends w n x well here sent live. row_typed prog sends w well n x here sent live
