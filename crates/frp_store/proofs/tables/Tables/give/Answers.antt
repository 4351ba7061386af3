use Rattle.std.proofs.Common.{◌∙◌, sym}
use Rattle.frp_store.proofs.Reopening.{given_one, given_none}
use Rattle.frp_store.proofs.tables.Tables.give.Goals as goal

pub returns-in-Some-clause-held : goal.returns-in-Some-clause-held
returns-in-Some-clause-held c =
    let s = c.args.self.now in
    c.write_occ.ensures ∙ sym (given_one c.args.fact s.held.items c.in-Some.place c.requires.findable.distinct (sym c.place.ensures.place ∙ c.in-Some.is))

pub returns-clause-held : goal.returns-clause-held
returns-clause-held c =
    let s = c.args.self.now in
    sym (given_none c.args.fact s.held.items (sym c.place.ensures.place ∙ c.in_default.is))
