use Rattle.frp_base.proofs.NameLemmas as names
use Rattle.frp_base.proofs.laws.made_names_have_makers.Goals as goal

pub returns-clause-maker : goal.returns-clause-maker
returns-clause-maker c = names.made_names_have_makers

pub returns-clause-birth : goal.returns-clause-birth
returns-clause-birth c = names.made_names_are_born
