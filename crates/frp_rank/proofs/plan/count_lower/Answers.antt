use Rattle.std.proofs.Common.{◌≡◌, ◌<◌, ◌≤◌, ℕ, ltb, length, get_or, true, false, sym, arith, rules}
use Rattle.std.proofs.lemmas.Bool.Decides.{nat_tests}
use Rattle.std.proofs.lemmas.List.Sorted.{IsPartitionPoint-from_clause, IsPartitionedBy-ltb}
use Rattle.frp_rank.proofs.Renumbering.{lower_count_split}
use Rattle.frp_rank.proofs.plan.count_lower.Goals as goal

pub returns : goal.returns
returns c =
    let sorted = c.args.sorted.now in
    let point = IsPartitionPoint-from_clause (λ y. ltb y c.args.rank) sorted c.partition_point.result c.partition_point.ensures.partitioned (IsPartitionedBy-ltb (λ x. x) sorted c.args.rank c.requires) (λ a r q k. search rules) in
    sym (lower_count_split sorted c.args.rank c.partition_point.result c.partition_point.ensures.bound
    (λ k h. let t = point.0 k 0 (omega arith) h in grind (arith, nat_tests, t))
    (λ k h l. let t = point.1 k 0 h l in grind (arith, nat_tests, t)))
