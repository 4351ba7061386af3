use Rattle.std.proofs.Common.{[], length, refl, rules}
use Rattle.std.specs.Prelude.{◌==◌, if◌then◌else◌}
use Rattle.frp_base.specs.Name.{item_of}
use Rattle.frp_rows.specs.Unsendable.{prog, tried, trace}
use Rattle.frp_rows.proofs.Computing.{computing, typing, false_true}
use Rattle.frp_rows.proofs.Traces as tests
use Rattle.frp_rows.proofs.unsendable.Goals as goal

pub returns : goal.returns
returns c = record {
  typed = record { funs = refl; templates = simp typing; lines = simp typing; nodes_only = refl; joins = refl; no_param = refl; no_kept = refl; gives_nothing = refl };
  with_five = tests.is_trace prog tried (trace 5) refl refl refl (search (rules, computing), (search (rules, computing), tt));
  with_six = tests.is_trace prog tried (trace 6) refl refl refl (search (rules, computing), (search (rules, computing), tt));
  sound_five = tests.sound prog (λ past n. if length n == 2 then 2 else item_of n) [] (trace 5) (simp computing);
  sound_six = tests.sound prog (λ past n. if length n == 2 then 2 else item_of n) [] (trace 6) (simp computing);
  refused = λ n h. false_true (simp computing at h.0);
}
