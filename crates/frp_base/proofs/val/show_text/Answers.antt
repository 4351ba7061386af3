use Rattle.std.proofs.Common.{[], ◌∷◌, ◌++◌, ap, ◌∙◌}
use Rattle.frp_base.proofs.ValLemmas.{escaped_more}
use Rattle.frp_base.proofs.val.show_text.Goals as goal

pub loop-c-preserved : goal.loop-c-preserved
loop-c-preserved c = ap (λ xs. xs ++ 34 ∷ []) (escaped_more _ _ _ _ _ c.in-Some.ensures.steps.0 c.in_ok-show_char.ensures) ∙ c.loop-c.invariant
