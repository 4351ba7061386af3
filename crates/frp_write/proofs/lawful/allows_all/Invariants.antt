use Rattle.std.proofs.Common.{◌≡◌, drop}
use Rattle.std.specs.List.{list_all}
use Rattle.frp_write.proofs.lawful.allows_all.Given as goal

abbrev pub invariant-loop-it : goal.invariant-loop-it
invariant-loop-it g l = list_all g.T.Allowed.allowed (drop l.it-index l.all) ≡ list_all g.T.Allowed.allowed l.all
