use Rattle.std.proofs.Common.{map, sym, ◌∙◌}
use Rattle.std.proofs.lemmas.List.{length-map}
use Rattle.frp_graph.specs.Trace.{node_in}
use Rattle.frp_graph.specs.Values.{is_value}
use Rattle.frp_core.proofs.Sigs.{uneven}
use Rattle.frp_core.proofs.fits.+is_value.Goals as goal

pub are_values-returns-then-values-tys : goal.are_values-returns-then-values-tys
are_values-returns-then-values-tys n c =
    let values = c.args.values.now in
    let tests = is_value c.args.prog.now (node_in c.args.nodes.now) in
    sym (uneven (map tests values) c.args.tys.now (λ e. c.if-values-tys.true (sym (length-map values tests) ∙ e)))
