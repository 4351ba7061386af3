use Rattle.frp_graph.proofs.Rows as rows
use Rattle.frp_graph.proofs.shape_laws.rows_agree.Goals as goal

pub returns : goal.returns
returns c = rows.rows_agree
