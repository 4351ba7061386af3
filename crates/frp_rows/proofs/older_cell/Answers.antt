use Rattle.std.proofs.Common.{[], ◌∷◌, length, refl, rules, arith}
use Rattle.frp_base.specs.Name.{item_of}
use Rattle.std.specs.Prelude.{slice_index, ◌==◌, if◌then◌else◌}
use Rattle.frp_rows.specs.OlderCell.{prog, trace}
use Rattle.frp_rows.proofs.Computing.{computing, typing}
use Rattle.frp_rows.proofs.Traces as tests
use Rattle.frp_rows.proofs.older_cell.Goals as goal

pub returns : goal.returns
returns c = record {
  typed = record { funs = refl; templates = simp typing; lines = simp typing; nodes_only = refl; joins = refl; no_param = refl; no_kept = refl; gives_nothing = refl };
  legal = record {
    is_trace = tests.is_trace _ _ _ refl (simp computing) (simp computing) (search (rules, computing), (search (rules, computing), (search (rules, computing), (search (rules, computing), (search (rules, computing), tt)))));
    sound = tests.sound prog (λ past n. if length n == 2 then 2 else slice_index (0 ∷ 0 ∷ 1 ∷ 1 ∷ []) (item_of n)) [] trace (simp computing);
    within = tests.within _ _ (omega arith) (omega arith);
    few_entries = omega arith;
    replies = search (rules, computing, tests.free);
  };
}
