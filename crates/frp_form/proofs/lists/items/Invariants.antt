use Rattle.std.proofs.Common.{◌≡◌, ◌-◌}
use Rattle.frp_form.specs.Lists.{items, behind, over_at}
use Rattle.frp_form.proofs.lists.items.Given as goal

abbrev pub invariant-loop : goal.invariant-loop
invariant-loop g l = behind l.all (items g.T.Rule.ending (over_at l.end l.past) (g.T.Rule.reading l.end) (l.limit - l.counter) l.rest) ≡ items g.T.Rule.ending (over_at l.end l.past) (g.T.Rule.reading l.end) l.limit l.tokens
