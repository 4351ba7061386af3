use Rattle.frp_graph.specs.declared.evidence.Phase.TheVariants as phase
use Rattle.std.proofs.Common.{[], ◌∷◌}
use Rattle.frp_graph.specs.Trace.{sight_of}
use Rattle.frp_graph.specs.Links.{is_linked}
use Rattle.frp_graph.specs.Evidence.{LeadsToChain}
use Rattle.frp_rows.specs.InstanceCycle.{trace, made, begun}
use Rattle.frp_rows.proofs.Computing.{computing, false_true}
use Rattle.frp_rows.proofs.Evidences.{rules_of}
use Rattle.frp_rows.proofs.refuses_births.Goals as goal

loop_leads : LeadsToChain (is_linked (sight_of trace begun.last) phase.Birth) (made 0)
loop_leads = record { first = made 0; others = made 1 ∷ []; closed = simp computing; way = made 1 ∷ []; leads = simp computing }

pub returns : goal.returns
returns c = record {
  half = λ h. false_true (rules_of 0 h).births.whole.0;
  begun = λ h. let e = (rules_of 0 h).firsts.firsts.0.missing loop_leads in cc;
}
