use Rattle.std.proofs.Common.{ℕ, List, [], ◌∷◌, refl, rules, arith, Bool, inr}
use Rattle.std.specs.Prelude.{slice_index}
use Rattle.frp_base.specs.declared.name.Name.{Name}
use Rattle.frp_base.specs.Name.{item_of}
use Rattle.frp_graph.specs.declared.evidence.Phase.TheVariants as phase
use Rattle.frp_graph.specs.declared.trace.Moment.{Moment}
use Rattle.frp_graph.specs.declared.trace.Sent.{Sent}
use Rattle.frp_graph.specs.Evidence.{IsTrueEvidence, is_below, ranks_lower}
use Rattle.frp_rows.specs.Writing.{num, sent_at}
use Rattle.frp_rows.specs.EndlessSplit.{prog, few, first, trace, entries, listened, script, evidence}
use Rattle.frp_rows.proofs.Computing.{computing, typing}
use Rattle.frp_rows.proofs.Traces as tests
use Rattle.frp_rows.proofs.Evidences as evidences
use Rattle.frp_rows.proofs.endless_split.Goals as goal

abbrev sent : List Sent
sent = sent_at 1 0 (num 4) ∷ []

abbrev past : List Moment
past = first ∷ evidence.done

-- the order in which the nodes are settled
abbrev rank : Name → ℕ
rank n = slice_index (0 ∷ 1 ∷ 2 ∷ 3 ∷ 4 ∷ 0 ∷ 3 ∷ []) (item_of n)

abbrev below : Name → Bool
below = is_below evidence.ranks evidence.level

shown : IsTrueEvidence prog few sent 1 (first ∷ []) evidence
shown = inr (record {
  reached = evidences.reached prog few sent 1 past evidence.done evidence.last (λ past n. rank n) refl (simp computing) (simp computing) (search (rules, computing), (search (rules, computing), (search (rules, computing), (search (rules, computing), tt)))) (simp computing) (omega arith) (omega arith) (simp computing) refl (omega arith);
  ranked = evidences.ranked past evidence.last evidence.ranks refl refl refl;
  settled = evidences.settled past evidence.last prog sent below (ranks_lower evidence.ranks) refl (search (rules, computing)) refl refl;
  firsts = record {
    firsts = tt;
    chainless = λ _. tests.phase_chainless item_of past evidence.last phase.Birth refl;
    no_missing_read = evidences.reads past evidence.last prog sent below refl;
  };
  births = evidences.whole past evidence.last prog sent below few tt refl refl refl refl;
  cause = record {
    is_limit = refl;
    all_below = evidences.all_below past evidence.last prog sent below refl;
    few_nodes = omega arith;
    chainless = tests.chainless rank past evidence.last refl refl refl;
    settled = refl;
    more = 1 ∷ 0 ∷ 0 ∷ 0 ∷ 0 ∷ [];
    of_this = refl;
    more_due = simp computing;
    more_new = refl;
  };
})

pub returns : goal.returns
returns c = record {
  typed = tests.typed prog.codes prog.body.lines (simp typing) refl;
  legal = record {
    is_trace = tests.is_trace _ _ _ refl (simp computing) (simp computing) (search (rules, computing), (search (rules, computing), (search (rules, computing), (search (rules, computing), (search (rules, computing), tt)))));
    sound = tests.sound prog (λ past n. rank n) [] trace (simp computing);
    within = tests.within_each few trace refl (omega arith);
    few_entries = omega arith;
    replies = (simp computing ((refl, shown), refl), (search (rules, computing), tt));
  };
  session = tests.session listened script entries 0 2 refl refl refl refl refl refl;
}
