use Rattle.std.proofs.Common.{[], ◌∷◌, refl, rules, arith}
use Rattle.frp_base.specs.Name.{item_of}
use Rattle.frp_base.specs.declared.ty.Ty.TheVariants as t
use Rattle.frp_graph.specs.TypedProg.{IsTypedProg}
use Rattle.frp_rows.specs.Functions.{prog, first, fourth, trace, entries, listened, script}
use Rattle.frp_rows.proofs.Computing.{computing, typing}
use Rattle.frp_rows.proofs.Traces as tests
use Rattle.frp_rows.proofs.functions.Goals as goal

abbrev typed : IsTypedProg prog
typed = record { funs = simp typing; templates = refl; lines = simp typing; nodes_only = refl; joins = refl; no_param = refl; no_kept = refl; gives_nothing = refl }

pub returns : goal.returns
returns c = record {
  typed = typed;
  legal = record {
    is_trace = tests.is_trace _ _ _ refl refl refl (search (rules, computing), (search (rules, computing), tt));
    sound = tests.sound prog (λ past n. item_of n) [] trace (simp computing);
    within = tests.within _ _ (omega arith) (omega arith);
    few_entries = omega arith;
    replies = search (rules, computing, tests.free);
  };
  session = tests.session listened script entries 3 1 refl refl refl refl refl refl;
  well_formed = tests.well_formed prog (first ∷ []) fourth typed (
    simp typing,
    (
      (t.Int, refl, refl),
      (
        (t.Int, t.Fun t.Int t.Int, refl, record { kept = []; kept_fit = refl; typed = simp typing }, refl),
        (
          (t.Int, t.Int, refl, refl, refl),
          (
            (t.Int, refl, refl),
            (
              (t.Int, refl, refl),
              (
                simp typing,
                (
                  (t.Int, refl, refl, record { kept = []; kept_fit = refl; typed = simp typing }, refl),
                  tt,
                ),
              ),
            ),
          ),
        ),
      ),
    ),
  )
      (simp typing) refl;
  firsts = tests.has_firsts (first ∷ []) fourth (simp typing);
}
