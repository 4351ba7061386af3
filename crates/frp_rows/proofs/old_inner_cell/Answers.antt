use Rattle.std.proofs.Common.{ℕ, zero, suc, List, [], ◌∷◌, length, refl, rules, arith, Bool, inr}
use Rattle.std.specs.Prelude.{slice_index}
use Rattle.frp_base.specs.declared.name.Name.{Name}
use Rattle.frp_base.specs.Name.{item_of}
use Rattle.frp_base.specs.declared.val.Val.TheVariants as v
use Rattle.frp_graph.specs.declared.evidence.Phase.TheVariants as phase
use Rattle.frp_graph.specs.declared.trace.Moment.{Moment}
use Rattle.frp_graph.specs.declared.trace.Sent.{Sent}
use Rattle.frp_graph.specs.Evidence.{IsTrueEvidence, is_below, ranks_lower}
use Rattle.frp_rows.specs.Writing.{usual, cell_val, sent_at}
use Rattle.frp_rows.specs.OldInnerCell.{prog, trace, entries, listened, script, evidence}
use Rattle.frp_rows.proofs.Computing.{computing, typing}
use Rattle.frp_rows.proofs.Traces as tests
use Rattle.frp_rows.proofs.Evidences as evidences
use Rattle.frp_rows.proofs.old_inner_cell.Goals as goal

-- the order in which the nodes are settled at the moment after m others
abbrev rank : ℕ → ℕ → ℕ
rank zero k = k
rank (suc m) k = slice_index (0 ∷ 0 ∷ 1 ∷ 2 ∷ 5 ∷ 6 ∷ 1 ∷ 2 ∷ 3 ∷ 4 ∷ []) k

-- the sends up to the refused one, and the moments before it
abbrev sent : List Sent
sent = sent_at 3 0 (v.Pair (cell_val 9) (cell_val 1))
    ∷ sent_at 4 0 (v.Pair (cell_val 5) (cell_val 1))
    ∷ []

abbrev past : List Moment
past = trace

abbrev below : Name → Bool
below = is_below evidence.ranks evidence.level

shown : IsTrueEvidence prog usual sent 4 past evidence
shown = inr (record {
  reached = evidences.reached prog usual sent 4 past evidence.done evidence.last (λ past n. rank (length past) (item_of n)) refl refl refl (search (rules, computing), (search (rules, computing), tt)) (simp computing) (omega arith) (omega arith) refl refl (omega arith);
  ranked = evidences.ranked past evidence.last evidence.ranks refl refl refl;
  settled = evidences.settled past evidence.last prog sent below (ranks_lower evidence.ranks) refl (search (rules, computing)) refl refl;
  firsts = record {
    firsts = tt;
    chainless = λ _. tests.phase_chainless item_of past evidence.last phase.Birth refl;
    no_missing_read = evidences.reads past evidence.last prog sent below refl;
  };
  births = evidences.whole past evidence.last prog sent below usual tt refl refl refl refl;
  cause = record { closed = simp computing; all_below = λ e. absurd cc };
})

pub returns : goal.returns
returns c = record {
  typed = tests.typed prog.codes prog.body.lines (simp typing) refl;
  legal = record {
    is_trace = tests.is_trace _ _ _ refl refl refl (search (rules, computing), (search (rules, computing), tt));
    sound = tests.sound prog (λ past n. rank (length past) (item_of n)) [] trace (simp computing);
    within = tests.within _ _ (omega arith) (omega arith);
    few_entries = omega arith;
    replies = (search (rules, computing, tests.free), (search (rules, computing, tests.free), (search (rules, computing), (simp computing ((refl, shown), refl), (search (rules, computing), (search (rules, computing), tt))))));
  };
  session = tests.session listened script entries 2 2 refl refl refl refl refl refl;
}
