use Rattle.frp_form.proofs.Lengths.{tokens_are_few_lem}
use Rattle.frp_form.proofs.lawful_laws.tokens_are_few.Goals as goal

pub returns : goal.returns
returns c = tokens_are_few_lem
