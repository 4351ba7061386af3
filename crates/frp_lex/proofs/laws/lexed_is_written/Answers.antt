use Rattle.frp_lex.proofs.Written.{lexed_is_written_lem}
use Rattle.frp_lex.proofs.laws.lexed_is_written.Goals as goal

pub returns : goal.returns
returns c = lexed_is_written_lem
