use Rattle.frp_lex.proofs.Canonical.{lexed_is_lawful_lem, lexed_is_spelled_lem}
use Rattle.frp_lex.proofs.laws.lexed_is_canonical.Goals as goal

pub returns-clause-lawful : goal.returns-clause-lawful
returns-clause-lawful c = lexed_is_lawful_lem

pub returns-clause-spelled : goal.returns-clause-spelled
returns-clause-spelled c = lexed_is_spelled_lem
