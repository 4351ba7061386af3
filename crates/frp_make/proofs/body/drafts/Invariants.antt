use Rattle.std.proofs.Common.{◌≡◌, take, map}
use Rattle.std.specs.Option.{option_copied}
use Rattle.frp_graph.specs.Births.{plans_from}
use Rattle.frp_make.specs.Lines.{name_by, draft_of}
use Rattle.frp_make.proofs.body.drafts.Given as goal

abbrev pub invariant-loop-i : goal.invariant-loop-i
invariant-loop-i g l = l.nodes.items ≡ map draft_of (plans_from (name_by (option_copied l.maker) (g.V.View.sight l.view).time) l.all 0 l.given (take l.i l.lines))
