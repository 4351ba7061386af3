use Rattle.std.proofs.Common.{◌+◌, ◌*◌}
use Rattle.frp_crew.proofs.by_halves.+by_halves+fn-by_halves-join+arg2+fn-by_halves-join+arg3.Given as goal

abbrev pub decreases-by_halves : goal.decreases-by_halves
decreases-by_halves g l = 2 * l.workers

abbrev pub decreases-join+arg2 : goal.decreases-join+arg2
decreases-join+arg2 g l = 2 * l.fewer + 1

abbrev pub decreases-join+arg3 : goal.decreases-join+arg3
decreases-join+arg3 g l = 2 * l.more + 1
