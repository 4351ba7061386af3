use Rattle.std.proofs.Common.{◌≡◌, ◌++◌, drop}
use Rattle.frp_rank.specs.Plans.{risen_writes}
use Rattle.frp_rank.proofs.search.Search.rises.Given as goal

abbrev pub invariant-loop-visit : goal.invariant-loop-visit
invariant-loop-visit l =
    l.writes.items ++ risen_writes l.self.ranks.now.items l.self.by (drop l.visit-index l.visits) ≡ risen_writes l.self.ranks.now.items l.self.by l.fn.visits
