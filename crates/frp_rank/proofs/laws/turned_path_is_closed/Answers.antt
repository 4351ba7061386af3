use Rattle.frp_rank.proofs.Rings.{turned_is_closed}
use Rattle.frp_rank.proofs.laws.turned_path_is_closed.Goals as goal

pub returns : goal.returns
returns c = turned_is_closed
