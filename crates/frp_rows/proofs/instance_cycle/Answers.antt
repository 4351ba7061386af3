use Rattle.std.proofs.Common.{Bool, List, [], ◌∷◌, inr, refl, rules, arith}
use Rattle.frp_base.specs.Name.{item_of}
use Rattle.frp_base.specs.declared.name.Name.{Name}
use Rattle.frp_graph.specs.declared.evidence.Phase.TheVariants as phase
use Rattle.frp_graph.specs.declared.trace.Sent.{Sent}
use Rattle.frp_graph.specs.Trace.{Sight, sight_of}
use Rattle.frp_graph.specs.Links.{is_linked}
use Rattle.frp_graph.specs.Evidence.{IsTrueEvidence, LeadsToChain, is_below, ranks_lower}
use Rattle.frp_rows.specs.Writing.{usual, num, sent_at}
use Rattle.frp_rows.specs.InstanceCycle.{prog, trace, entries, listened, script, made, evidence}
use Rattle.frp_rows.proofs.Computing.{computing, typing}
use Rattle.frp_rows.proofs.Traces as tests
use Rattle.frp_rows.proofs.Evidences as evidences
use Rattle.frp_rows.proofs.instance_cycle.Goals as goal

abbrev sent : List Sent
sent = sent_at 1 0 (num 1) ∷ []

abbrev w : Sight
w = sight_of trace evidence.last

abbrev below : Name → Bool
below = is_below evidence.ranks evidence.level

loop_leads : LeadsToChain (is_linked w phase.Birth) (made 0)
loop_leads = record { first = made 0; others = made 1 ∷ []; closed = simp computing; way = made 1 ∷ []; leads = simp computing }

mapped_leads : LeadsToChain (is_linked w phase.Birth) (made 1)
mapped_leads = record { first = made 0; others = made 1 ∷ []; closed = simp computing; way = []; leads = simp computing }

shown : IsTrueEvidence prog usual sent 1 trace evidence
shown = inr (record {
  reached = evidences.reached prog usual sent 1 trace evidence.done evidence.last (λ past n. item_of n) refl refl refl (search (rules, computing), tt) (simp computing) (omega arith) (omega arith) refl refl (omega arith);
  ranked = evidences.ranked trace evidence.last evidence.ranks refl refl refl;
  settled = evidences.settled trace evidence.last prog sent below (ranks_lower evidence.ranks) refl (search (rules, computing)) refl refl;
  births = evidences.whole trace evidence.last prog sent below usual (search (rules, computing)) refl refl refl refl;
  firsts = record {
    firsts = (record { missing = λ _. refl; there = λ n. absurd (n loop_leads) }, (record { missing = λ _. refl; there = λ n. absurd (n mapped_leads) }, tt));
    chainless = λ e. absurd cc;
    no_missing_read = evidences.reads trace evidence.last prog sent below refl;
  };
  cause = record { closed = simp computing; all_below = λ e. absurd cc };
})

pub returns : goal.returns
returns c = record {
  typed = record { funs = refl; templates = simp typing; lines = simp typing; nodes_only = refl; joins = refl; no_param = refl; no_kept = refl; gives_nothing = refl };
  legal = record {
    is_trace = tests.is_trace _ _ _ refl refl refl (search (rules, computing), tt);
    sound = tests.sound prog (λ past n. item_of n) [] trace (simp computing);
    within = tests.within _ _ (omega arith) (omega arith);
    few_entries = omega arith;
    replies = (simp computing ((refl, shown), refl), tt);
  };
  session = tests.session listened script entries 0 1 refl refl refl refl refl refl;
}
