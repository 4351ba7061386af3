use Rattle.std.proofs.Common.{map, sym, ◌∙◌}
use Rattle.std.proofs.lemmas.List.{length-map}
use Rattle.frp_base.specs.Val.{val_eq}
use Rattle.frp_base.proofs.ValEqLemmas.{uneven}
use Rattle.frp_base.proofs.val.+same.Goals as goal

pub all_are-returns-then-values-others : goal.all_are-returns-then-values-others
all_are-returns-then-values-others t c =
    let values = c.args.values.now in
    sym (uneven (map val_eq values) c.args.others.now (λ e. c.if-values-others.true (sym (length-map values val_eq) ∙ e)))
