use Rattle.std.proofs.Common.{◌≤◌, List, drop}
use Rattle.std.specs.Option.{option_copied}
use Rattle.frp_base.specs.declared.val.Val.{Val}
use Rattle.frp_make.specs.Lines.{name_by, AreAll}
use Rattle.frp_make.proofs.Values.{Going}
use Rattle.frp_make.proofs.body.values.Given as goal

abbrev pub invariant-loop-line : goal.invariant-loop-line
invariant-loop-line g l = record {
  few : l.made ≤ l.line-index;
  going : (all : List Val) → AreAll (name_by (option_copied l.maker) (g.V.View.sight l.view).time) (g.V.View.sight l.view).pre l.fn.given l.lines all
      → Going (name_by (option_copied l.maker) (g.V.View.sight l.view).time) (g.V.View.sight l.view).pre l.made l.values (drop l.line-index l.lines) all;
}
