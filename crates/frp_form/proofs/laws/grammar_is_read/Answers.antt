use Rattle.frp_form.proofs.FileGrammar.{grammar_is_read_lem}
use Rattle.frp_form.proofs.laws.grammar_is_read.Goals as goal

pub returns : goal.returns
returns c = grammar_is_read_lem
