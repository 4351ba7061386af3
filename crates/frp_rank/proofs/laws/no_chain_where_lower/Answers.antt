use Rattle.frp_rank.proofs.Paths.{chainless}
use Rattle.frp_rank.proofs.laws.no_chain_where_lower.Goals as goal

pub returns : goal.returns
returns c = chainless
