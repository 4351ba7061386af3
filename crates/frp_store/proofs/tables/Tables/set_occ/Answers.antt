use Rattle.std.proofs.Common.{None, sym, ap, ◌∙◌}
use Rattle.frp_store.specs.Calls.{with_occ}
use Rattle.frp_store.specs.Kept.{state_of}
use Rattle.frp_store.proofs.Setting.{set_same}
use Rattle.frp_store.proofs.tables.Tables.set_occ.Goals as goal

pub returns-in-None-clause-now : goal.returns-in-None-clause-now
returns-in-None-clause-now c =
    let s = state_of c.args.self.now in
    ap (λ os. record s { occs = os }) (sym (set_same s.occs c.args.place None c.requires.free)) ∙ ap (λ o. with_occ c.args.place o s) (sym c.in-None.is)
