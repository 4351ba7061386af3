use Rattle.std.proofs.Common.{[], length, refl, rules, arith}
use Rattle.std.specs.Prelude.{◌+◌}
use Rattle.frp_base.specs.Name.{item_of}
use Rattle.frp_rows.specs.Nested.{prog, trace, made}
use Rattle.frp_rows.proofs.Computing.{computing, typing, false_true}
use Rattle.frp_rows.proofs.Traces as tests
use Rattle.frp_rows.proofs.nested.Goals as goal

pub returns : goal.returns
returns c = record {
  typed = record { funs = refl; templates = simp typing; lines = simp typing; nodes_only = refl; joins = refl; no_param = refl; no_kept = refl; gives_nothing = refl };
  legal = record {
    is_trace = tests.is_trace _ _ _ refl refl refl (search (rules, computing), (search (rules, computing), tt));
    sound = tests.sound prog (λ past n. length n + item_of n) [] trace (simp computing);
    within = tests.within _ _ (omega arith) (omega arith);
    few_entries = omega arith;
    replies = search (rules, computing);
  };
  left_out = λ h. false_true (h.moments.1.0.born_exactly.each_is_born made _ refl);
  unmade = λ h. h.moments.1.0.born_exactly.each_is_made.1.1.0;
}
