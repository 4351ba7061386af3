use Rattle.frp_rank.proofs.Renumbering.{renumbered_keeps}
use Rattle.frp_rank.proofs.laws.renumbering_keeps_order.Goals as goal

pub returns : goal.returns
returns c = renumbered_keeps
