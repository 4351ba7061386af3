use Rattle.std.proofs.Common.{◌≡◌, ◌++◌, take, drop, map}
use Rattle.frp_type.specs.States.{tie_line}
use Rattle.frp_type.proofs.checking.tied_lines.Given as goal

abbrev pub invariant-loop-line : goal.invariant-loop-line
invariant-loop-line l = l.line-items ≡ map (tie_line l.ties) (take l.line-index l.fn.lines) ++ drop l.line-index l.fn.lines
