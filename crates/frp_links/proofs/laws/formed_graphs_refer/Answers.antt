use Rattle.frp_links.proofs.Reading.{switches_refer}
use Rattle.frp_links.proofs.laws.formed_graphs_refer.Goals as goal

pub returns : goal.returns
returns c = λ prog w formed. (formed.named, switches_refer prog w formed)
