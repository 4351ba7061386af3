use Rattle.std.proofs.Common.{◌++◌, ap, ◌∙◌}
use Rattle.frp_write.specs.Writing.{param_kinds, params_kinds}
use Rattle.frp_write.proofs.StepLemmas.{on_ok, two_first}
use Rattle.frp_write.proofs.decls.template_first.Goals as goal

pub returns : goal.returns
returns c = on_ok c.write_params.result _ _
    (λ e. two_first _ _ _ _ _ _ _ c.in_ok-write_named.ensures (c.in_ok-write_param.ensures ∙ ap (λ p. c.write_named.new.out ++ param_kinds p) c.get.ensures) (e ∙ ap (λ ps. c.write_param.new.out ++ params_kinds ps) c.as_slice.ensures)) c.write_params.ensures
