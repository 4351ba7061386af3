use Rattle.std.proofs.Common.{[], refl, rules, arith}
use Rattle.frp_base.specs.Name.{item_of}
use Rattle.frp_rows.specs.Takes.{prog}
use Rattle.frp_rows.specs.EmptyGroup.{trace}
use Rattle.frp_rows.proofs.Computing.{computing}
use Rattle.frp_rows.proofs.Traces as tests
use Rattle.frp_rows.proofs.empty_group.Goals as goal

pub returns : goal.returns
returns c = record {
  is_trace = tests.is_trace _ _ _ refl refl refl (search (rules, computing), (search (rules, computing), tt));
  sound = tests.sound prog (λ past n. item_of n) [] trace (simp computing);
  within = tests.within _ _ (omega arith) (omega arith);
  few_entries = omega arith;
  replies = search (rules, computing);
}
