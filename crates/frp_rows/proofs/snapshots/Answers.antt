use Rattle.std.proofs.Common.{[], refl, rules, arith}
use Rattle.frp_base.specs.Name.{item_of}
use Rattle.frp_rows.specs.Snapshots.{prog, trace, entries, listened, script}
use Rattle.frp_rows.proofs.Computing.{computing, typing}
use Rattle.frp_rows.proofs.Traces as tests
use Rattle.frp_rows.proofs.snapshots.Goals as goal

pub returns : goal.returns
returns c = record {
  typed = tests.typed prog.codes prog.body.lines (simp typing) refl;
  legal = record {
    is_trace = tests.is_trace _ _ _ refl refl refl (search (rules, computing), (search (rules, computing), (search (rules, computing), tt)));
    sound = tests.sound prog (λ past n. item_of n) [] trace (simp computing);
    within = tests.within _ _ (omega arith) (omega arith);
    few_entries = omega arith;
    replies = search (rules, computing, tests.free);
  };
  session = tests.session listened script entries 1 2 refl refl refl refl refl refl;
}
