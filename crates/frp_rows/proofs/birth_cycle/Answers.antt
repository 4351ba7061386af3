use Rattle.std.proofs.Common.{[], ◌∷◌, refl, rules, arith, Bool, inr}
use Rattle.frp_base.specs.declared.name.Name.{Name}
use Rattle.frp_base.specs.Name.{item_of}
use Rattle.frp_graph.specs.declared.evidence.Phase.TheVariants as phase
use Rattle.frp_graph.specs.Trace.{Sight, sight_of}
use Rattle.frp_graph.specs.Links.{is_linked}
use Rattle.frp_graph.specs.Evidence.{LeadsToChain, is_below, ranks_lower}
use Rattle.frp_rows.specs.Writing.{usual, item}
use Rattle.frp_graph.specs.declared.shape.Shape.TheVariants as s
use Rattle.frp_graph.specs.TypedProg.{IsTypedProg}
use Rattle.frp_rows.specs.BirthCycle.{prog, last, missing, evidence}
use Rattle.frp_rows.proofs.Computing.{computing, typing}
use Rattle.frp_rows.proofs.Traces as tests
use Rattle.frp_rows.proofs.Evidences as evidences
use Rattle.frp_rows.proofs.birth_cycle.Goals as goal

abbrev w : Sight
w = sight_of [] evidence.last

abbrev below : Name → Bool
below = is_below evidence.ranks evidence.level

loop_leads : LeadsToChain (is_linked w phase.Birth) (item 1)
loop_leads = record { first = item 1; others = item 3 ∷ []; closed = simp computing; way = item 3 ∷ []; leads = simp computing }

switch_leads : LeadsToChain (is_linked w phase.Birth) (item 3)
switch_leads = record { first = item 1; others = item 3 ∷ []; closed = simp computing; way = []; leads = simp computing }

constant_leads_not : LeadsToChain (is_linked w phase.Birth) (item 2) → ⊥
constant_leads_not l = let e = simp computing at l.leads in cc

abbrev typed : IsTypedProg prog
typed = tests.typed prog.codes prog.body.lines (simp typing) refl

pub returns : goal.returns
returns c = record {
  typed = typed;
  well_formed = tests.well_formed prog [] last typed (simp typing, ((simp typing, refl), (simp typing, ((refl, simp typing), tt)))) (simp typing) refl;
  no_firsts = λ h. let e = h.first (item 1) (missing 1 (s.Loop (item 3))) refl (simp typing) in absurd cc;
  refused = inr (record {
    reached = evidences.reached prog usual [] 0 [] evidence.done evidence.last (λ past n. item_of n) refl refl refl tt refl (omega arith) (omega arith) refl refl (omega arith);
    ranked = evidences.ranked [] evidence.last evidence.ranks refl refl refl;
    settled = evidences.settled [] evidence.last prog [] below (ranks_lower evidence.ranks) refl (search (rules, computing)) refl refl;
    firsts = record {
      firsts = (
        record { missing = λ _. refl; there = λ _. refl },
        (
          record { missing = λ _. refl; there = λ n. absurd (n loop_leads) },
          (record { missing = λ l. absurd (constant_leads_not l); there = λ _. simp computing }, (record { missing = λ _. refl; there = λ n. absurd (n switch_leads) }, tt)),
        ),
      );
      chainless = λ e. absurd cc;
      no_missing_read = evidences.reads [] evidence.last prog [] below refl;
    };
    births = evidences.whole [] evidence.last prog [] below usual (search (rules, computing)) refl refl refl refl;
    cause = record { closed = simp computing; all_below = λ e. absurd cc };
  });
}
