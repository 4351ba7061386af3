use Rattle.frp_base.proofs.TextLemmas.{time_text-tells, name_text-tells}
use Rattle.frp_base.proofs.laws.texts_tell.Goals as goal

pub returns-clause-times : goal.returns-clause-times
returns-clause-times c = time_text-tells

pub returns-clause-names : goal.returns-clause-names
returns-clause-names c = name_text-tells
