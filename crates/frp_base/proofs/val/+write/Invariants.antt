use Rattle.std.proofs.Common.{◌≡◌, ◌++◌, drop, map}
use Rattle.frp_base.specs.Val.{spaced, val_text}
use Rattle.frp_base.proofs.val.+write.Given as goal

abbrev pub invariant-show_all-loop-value : goal.invariant-show_all-loop-value
invariant-show_all-loop-value l = l.out ++ spaced (map val_text (drop l.value-index l.values)) ≡ l.fn.out ++ spaced (map val_text l.fn.values)
