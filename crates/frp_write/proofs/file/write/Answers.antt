use Rattle.std.proofs.Common.{◌++◌, map, ap, ◌∙◌}
use Rattle.frp_write.specs.Writing.{lines, graph_kinds, listen_kinds, sender_kinds}
use Rattle.frp_write.proofs.StepLemmas.{all_lines}
use Rattle.frp_write.proofs.file.write.Goals as goal

pub returns : goal.returns
returns c =
    let f = c.args.file.now in
    all_lines c.new-text.result c.write_line.new.text c.write_lines.new.text c.write_lines-2.new.text (graph_kinds f.graph) (map listen_kinds f.listens) (map sender_kinds f.senders) c.new-text.ensures c.in_ok-write_line.ensures
    (c.in_ok-write_lines.ensures ∙ ap (λ xs. c.write_line.new.text ++ lines (map listen_kinds xs)) c.as_slice.ensures)
    (c.in_ok-write_lines-2.ensures ∙ ap (λ xs. c.write_lines.new.text ++ lines (map sender_kinds xs)) c.as_slice-2.ensures)
