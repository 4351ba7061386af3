use Rattle.frp_form.proofs.LawfulReading.{parts_are_lawful_lem}
use Rattle.frp_form.proofs.lawful_laws.parts_are_lawful.Goals as goal

pub returns : goal.returns
returns c = parts_are_lawful_lem
