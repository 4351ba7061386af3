use Rattle.std.proofs.Common.{◌≡◌, drop, map}
use Rattle.frp_base.specs.Val.{items_eq, val_eq}
use Rattle.frp_base.proofs.val.+same.Given as goal

-- whether what is left is equal says whether all is
abbrev pub invariant-all_are-loop-i : goal.invariant-all_are-loop-i
invariant-all_are-loop-i l = items_eq (map val_eq (drop l.i l.values)) (drop l.i l.others) ≡ items_eq (map val_eq l.values) l.others
