use Rattle.frp_form.proofs.FileGrammar.{read_is_grammar_lem}
use Rattle.frp_form.proofs.laws.read_is_grammar.Goals as goal

pub returns : goal.returns
returns c = read_is_grammar_lem
