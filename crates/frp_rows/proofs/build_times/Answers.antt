use Rattle.std.proofs.Common.{take, drop, Bool, List, [], ◌∷◌, inr, refl, rules, arith}
use Rattle.frp_base.specs.Name.{item_of}
use Rattle.frp_base.specs.declared.name.Name.{Name}
use Rattle.frp_graph.specs.declared.evidence.Phase.TheVariants as phase
use Rattle.frp_graph.specs.declared.trace.Moment.{Moment}
use Rattle.frp_graph.specs.Evidence.{is_below, ranks_lower}
use Rattle.frp_rows.specs.BuildTimes.{prog, first, trace, entries, two, evidence}
use Rattle.frp_rows.proofs.Computing.{computing, typing}
use Rattle.frp_rows.proofs.Traces as tests
use Rattle.frp_rows.proofs.Evidences as evidences
use Rattle.frp_rows.proofs.build_times.Goals as goal

abbrev past : List Moment
past = first ∷ []

abbrev below : Name → Bool
below = is_below evidence.ranks evidence.level

pub returns : goal.returns
returns c = record {
  typed = tests.typed prog.codes prog.body.lines (simp typing) refl;
  legal = record {
    is_trace = tests.is_trace _ _ _ refl (simp computing) (simp computing) (search (rules, computing), (search (rules, computing), (search (rules, computing), tt)));
    sound = tests.sound prog (λ past n. item_of n) [] trace (simp computing);
    within = tests.within _ _ (omega arith) (omega arith);
    few_entries = omega arith;
    replies = search (rules, computing, tests.free);
  };
  session = record { joins = take 1 entries; sends = []; leaves = drop 1 entries; in_order = refl; joined = refl; sent = λ i. search rules; only_scripts = refl; left = refl };
  refused = inr (record {
    reached = evidences.reached prog two [] 0 past evidence.done evidence.last (λ past n. item_of n) refl (simp computing) refl (search (rules, computing), tt) (simp computing) (omega arith) (omega arith) (simp computing) refl (omega arith);
    ranked = evidences.ranked past evidence.last evidence.ranks refl refl refl;
    settled = evidences.settled past evidence.last prog [] below (ranks_lower evidence.ranks) refl (search (rules, computing)) refl refl;
    births = evidences.whole past evidence.last prog [] below two tt refl refl refl refl;
    firsts = record {
      firsts = tt;
      chainless = λ _. tests.phase_chainless item_of past evidence.last phase.Birth refl;
      no_missing_read = evidences.reads past evidence.last prog [] below refl;
    };
    cause = record {
      is_limit = refl;
      all_below = evidences.all_below past evidence.last prog [] below refl;
      few_nodes = omega arith;
      chainless = tests.chainless item_of past evidence.last refl refl refl;
      settled = refl;
      more = 0 ∷ 1 ∷ [];
      of_this = refl;
      more_due = simp computing;
      more_new = refl;
    };
  });
}
