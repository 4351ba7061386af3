use Rattle.std.proofs.Common.{List, [], ◌∷◌, refl, rules, arith, Bool, inr}
use Rattle.frp_base.specs.declared.name.Name.{Name}
use Rattle.frp_base.specs.Name.{item_of}
use Rattle.frp_graph.specs.declared.evidence.Phase.TheVariants as phase
use Rattle.frp_graph.specs.declared.trace.Moment.{Moment}
use Rattle.frp_graph.specs.declared.trace.Sent.{Sent}
use Rattle.frp_graph.specs.Evidence.{IsTrueEvidence, is_below, ranks_lower}
use Rattle.frp_rows.specs.Writing.{usual, cell_val, sent_at}
use Rattle.frp_rows.specs.CellCycle.{prog, first, trace, entries, listened, script, evidence}
use Rattle.frp_rows.proofs.Computing.{computing, typing}
use Rattle.frp_rows.proofs.Traces as tests
use Rattle.frp_rows.proofs.Evidences as evidences
use Rattle.frp_rows.proofs.cell_cycle.Goals as goal

-- the sends up to the refused one, and the moments before it
abbrev sent : List Sent
sent = sent_at 2 0 (cell_val 4) ∷ []

abbrev past : List Moment
past = first ∷ []

abbrev below : Name → Bool
below = is_below evidence.ranks evidence.level

shown : IsTrueEvidence prog usual sent 2 past evidence
shown = inr (record {
  reached = evidences.reached prog usual sent 2 past evidence.done evidence.last (λ past n. item_of n) refl refl refl (search (rules, computing), tt) (simp computing) (omega arith) (omega arith) refl refl (omega arith);
  ranked = evidences.ranked past evidence.last evidence.ranks refl refl refl;
  settled = evidences.settled past evidence.last prog sent below (ranks_lower evidence.ranks) refl (search (rules, computing)) refl refl;
  firsts = record {
    firsts = tt;
    chainless = λ _. tests.phase_chainless item_of past evidence.last phase.Birth refl;
    no_missing_read = evidences.reads past evidence.last prog sent below refl;
  };
  births = evidences.whole past evidence.last prog sent below usual tt refl refl refl refl;
  cause = record { closed = simp computing; all_below = λ e. absurd cc };
})

pub returns : goal.returns
returns c = record {
  typed = tests.typed prog.codes prog.body.lines (simp typing) refl;
  legal = record {
    is_trace = tests.is_trace _ _ _ refl refl refl (search (rules, computing), (search (rules, computing), tt));
    sound = tests.sound prog (λ past n. item_of n) [] trace (simp computing);
    within = tests.within _ _ (omega arith) (omega arith);
    few_entries = omega arith;
    replies = (search (rules, computing, tests.free), (simp computing ((refl, shown), refl), (search (rules, computing), (search (rules, computing), tt))));
  };
  session = tests.session listened script entries 1 2 refl refl refl refl refl refl;
}
