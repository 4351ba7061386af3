use Rattle.frp_sugar.proofs.LawfulKept.{lawful_kept}
use Rattle.frp_sugar.proofs.lawful_law.expanded_is_lawful.Goals as goal

pub returns : goal.returns
returns c = lawful_kept
