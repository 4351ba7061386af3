use Rattle.std.proofs.Common.{◌∙◌, ap, sym}
use Rattle.frp_type.specs.States.{tie_line}
use Rattle.frp_type.proofs.TieLines.{set_next}
use Rattle.frp_type.proofs.checking.tied_lines.Goals as goal

pub loop-line-preserved : goal.loop-line-preserved
loop-line-preserved c = set_next (tie_line c.args.ties.now) c.args.lines c.loop-line.line-items c.loop-line.line-index c.line-item.result c.tie_line.new.line c.loop-line.invariant c.line-item.is (c.tie_line.ensures ∙ ap (tie_line c.args.ties.now) (sym c.line-item.is))
