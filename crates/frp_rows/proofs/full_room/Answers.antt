use Rattle.std.proofs.Common.{ℕ, List, [], ◌∷◌, length, refl, rules, arith, ◌+◌, Bool, inr, Some}
use Rattle.frp_base.specs.declared.name.Name.{Name}
use Rattle.frp_base.specs.Name.{item_of}
use Rattle.frp_graph.specs.declared.evidence.Phase.TheVariants as phase
use Rattle.frp_graph.specs.declared.trace.Sent.{Sent}
use Rattle.frp_graph.specs.Evidence.{IsTrueEvidence, is_below, ranks_lower}
use Rattle.frp_base.specs.declared.ty.Ty.TheVariants as t
use Rattle.frp_graph.specs.declared.shape.Shape.TheVariants as s
use Rattle.frp_graph.specs.Trace.{sight_of}
use Rattle.frp_graph.specs.Births.{Instance}
use Rattle.frp_graph.specs.Links.{is_linked}
use Rattle.frp_graph.specs.Evidence.{LeadsToChain}
use Rattle.frp_rows.specs.Writing.{item, num, stream_node, sent_at}
use Rattle.frp_rows.specs.FullRoom.{prog, small, trace, entries, listened, script, made, evidence}
use Rattle.frp_rows.proofs.Computing.{computing, typing}
use Rattle.frp_rows.proofs.Traces as tests
use Rattle.frp_rows.proofs.Evidences as evidences
use Rattle.frp_rows.proofs.full_room.Goals as goal

-- the sends that are accepted, with that of place p, which is refused
abbrev sent : ℕ → List Sent
sent p = sent_at 1 0 (num 1) ∷ sent_at p 0 (num p) ∷ []

abbrev below : ℕ → Name → Bool
below p = is_below (evidence p).ranks 1

-- the instance of the second execute at place p
abbrev instance : ℕ → Instance
instance p = record { nodes = record { name = (made 2 p).name; shape = s.Constant; ty = t.Cell t.Int; given = Some (num p) } ∷ []; result = num p }

abbrev rank : Name → ℕ
rank n = length n + item_of n

-- at place 2: the node that is born leads to no chain
second_leads_not : LeadsToChain (is_linked (sight_of trace (evidence 2).last) phase.Birth) (made 1 2).name → ⊥
second_leads_not l = let e = simp computing at l.leads in cc

second : IsTrueEvidence prog small (sent 2) 2 trace (evidence 2)
second = inr (record {
  reached = evidences.reached prog small (sent 2) 2 trace (evidence 2).done (evidence 2).last (λ past n. rank n) refl refl refl (search (rules, computing), (search (rules, computing), tt)) (simp computing) (omega arith) (omega arith) refl refl (omega arith);
  ranked = evidences.ranked trace (evidence 2).last (evidence 2).ranks refl refl refl;
  settled = evidences.settled trace (evidence 2).last prog (sent 2) (below 2) (ranks_lower (evidence 2).ranks) refl (search (rules, computing)) refl refl;
  firsts = record {
    firsts = (record { missing = λ l. absurd (second_leads_not l); there = λ _. simp computing }, tt);
    chainless = λ _. tests.phase_chainless item_of trace (evidence 2).last phase.Birth (simp computing);
    no_missing_read = evidences.reads trace (evidence 2).last prog (sent 2) (below 2) refl;
  };
  births = evidences.whole trace (evidence 2).last prog (sent 2) (below 2) small (search (rules, computing)) refl refl refl refl;
  cause = record { is_limit = refl; execute = stream_node 2 t.Int (s.Execute (item 0) 0 []); is_live = refl; makes = refl; instance = instance 2; is_instance = simp computing; unborn = refl; too_many = omega arith };
})

-- at place 3: the node that is born leads to no chain
third_leads_not : LeadsToChain (is_linked (sight_of trace (evidence 3).last) phase.Birth) (made 1 3).name → ⊥
third_leads_not l = let e = simp computing at l.leads in cc

third : IsTrueEvidence prog small (sent 3) 3 trace (evidence 3)
third = inr (record {
  reached = evidences.reached prog small (sent 3) 3 trace (evidence 3).done (evidence 3).last (λ past n. rank n) refl refl refl (search (rules, computing), (search (rules, computing), tt)) (simp computing) (omega arith) (omega arith) refl refl (omega arith);
  ranked = evidences.ranked trace (evidence 3).last (evidence 3).ranks refl refl refl;
  settled = evidences.settled trace (evidence 3).last prog (sent 3) (below 3) (ranks_lower (evidence 3).ranks) refl (search (rules, computing)) refl refl;
  firsts = record {
    firsts = (record { missing = λ l. absurd (third_leads_not l); there = λ _. simp computing }, tt);
    chainless = λ _. tests.phase_chainless item_of trace (evidence 3).last phase.Birth (simp computing);
    no_missing_read = evidences.reads trace (evidence 3).last prog (sent 3) (below 3) refl;
  };
  births = evidences.whole trace (evidence 3).last prog (sent 3) (below 3) small (search (rules, computing)) refl refl refl refl;
  cause = record { is_limit = refl; execute = stream_node 2 t.Int (s.Execute (item 0) 0 []); is_live = refl; makes = refl; instance = instance 3; is_instance = simp computing; unborn = refl; too_many = omega arith };
})

pub returns : goal.returns
returns c = record {
  typed = record { funs = refl; templates = simp typing; lines = simp typing; nodes_only = refl; joins = refl; no_param = refl; no_kept = refl; gives_nothing = refl };
  legal = record {
    is_trace = tests.is_trace _ _ _ refl refl refl (search (rules, computing), (search (rules, computing), tt));
    sound = tests.sound prog (λ past n. rank n) [] trace (simp computing);
    within = tests.within _ _ (omega arith) (omega arith);
    few_entries = omega arith;
    replies = (search (rules, computing), (simp computing ((refl, second), refl), (simp computing ((refl, third), refl), tt)));
  };
  session = tests.session listened script entries 0 3 refl refl refl refl refl refl;
}
