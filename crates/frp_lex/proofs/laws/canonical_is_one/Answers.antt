use Rattle.frp_lex.proofs.Canonical.{canonical_stays_lem, spelling_tells_lem}
use Rattle.frp_lex.proofs.laws.canonical_is_one.Goals as goal

pub returns-clause-stays : goal.returns-clause-stays
returns-clause-stays c = canonical_stays_lem

pub returns-clause-tells : goal.returns-clause-tells
returns-clause-tells c = spelling_tells_lem
