use Rattle.frp_lex.proofs.Spelled.{spelled_is_lexed_lem}
use Rattle.frp_lex.proofs.laws.spelled_is_lexed.Goals as goal

pub returns : goal.returns
returns c = spelled_is_lexed_lem
