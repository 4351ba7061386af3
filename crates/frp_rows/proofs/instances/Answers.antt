use Rattle.frp_graph.specs.TypedProg.{IsTypedProg}
use Rattle.std.proofs.Common.{[], ◌∷◌, length, refl, rules, arith}
use Rattle.std.specs.Prelude.{slice_index, ◌==◌, if◌then◌else◌}
use Rattle.frp_base.specs.Name.{item_of}
use Rattle.frp_base.specs.declared.ty.Ty.TheVariants as t
use Rattle.frp_rows.specs.Instances.{prog, first, third, trace, entries, listened, script}
use Rattle.frp_rows.proofs.Computing.{computing, typing}
use Rattle.frp_rows.proofs.Traces as tests
use Rattle.frp_rows.proofs.instances.Goals as goal

abbrev typed : IsTypedProg prog
typed = record { funs = refl; templates = simp typing; lines = simp typing; nodes_only = refl; joins = refl; no_param = refl; no_kept = refl; gives_nothing = refl }

pub returns : goal.returns
returns c = record {
  typed = typed;
  legal = record {
    is_trace = tests.is_trace _ _ _ refl refl refl (search (rules, computing), (search (rules, computing), (search (rules, computing), tt)));
    sound = tests.sound prog (λ past n. if length n == 2 then 2 else slice_index (0 ∷ 1 ∷ 3 ∷ 0 ∷ 3 ∷ 4 ∷ []) (item_of n)) [] trace (simp computing);
    within = tests.within _ _ (omega arith) (omega arith);
    few_entries = omega arith;
    replies = search (rules, computing, tests.free);
  };
  session = tests.session listened script entries 2 2 refl refl refl refl refl refl;
  well_formed = tests.well_formed prog (first ∷ []) third typed (
    simp typing,
    (
      (record { param = t.Int; kept = t.Stream t.Int ∷ []; gives = t.Cell t.Int; depth = 1 }, simp typing, refl, simp typing, refl),
      (
        (record { param = t.Cell t.Int; kept = []; gives = t.Int; depth = 1 }, simp typing, refl, refl, refl),
        (simp typing, ((t.Cell t.Int, refl, refl), ((refl, simp typing), ((t.Int, refl, refl), tt)))),
      ),
    ),
  )
      (simp typing) refl;
  candidates = refl;
}
