use Rattle.std.proofs.Common.{◌≡◌, drop, map}
use Rattle.frp_write.specs.Lawful.{all_within, expr_within}
use Rattle.frp_write.proofs.lawful.+within.Given as goal

abbrev pub invariant-all_within-loop-raw : goal.invariant-all_within-loop-raw
invariant-all_within-loop-raw l = all_within (map expr_within (drop l.raw-index l.raws)) l.room ≡ all_within (map expr_within l.raws) l.room
