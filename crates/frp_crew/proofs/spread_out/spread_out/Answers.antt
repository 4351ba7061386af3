use Rattle.std.proofs.Common.{◌∙◌}
use Rattle.std.specs.Fn.{FnReturnsAt}
use Rattle.rayon.proofs.ToStd.{slice-AllZip}
use Rattle.frp_crew.proofs.Joining.{results_collected}
use Rattle.frp_crew.proofs.spread_out.spread_out.Goals as goal

pub returns : goal.returns
returns g c =
    let collected = c.in_ok-answers.ensures in
    let chain = rw (c.map.ensures.base, c.map.ensures.f) at collected.1 in
    results_collected g.F.Fn c.args.f.now c.args.items.now collected.0 c.in_ok-answers.answers
    (slice-AllZip chain.0 c.args.items.now (chain.1 ∙ c.par_iter.ensures) (FnReturnsAt g.F.Fn c.args.f.now) collected.0 chain.2)
    collected.2
