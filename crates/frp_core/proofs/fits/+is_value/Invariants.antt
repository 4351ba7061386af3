use Rattle.std.proofs.Common.{◌≡◌, drop, map}
use Rattle.frp_graph.specs.Trace.{node_in}
use Rattle.frp_graph.specs.Values.{is_value}
use Rattle.frp_expr.specs.Values.{all_of, each_of}
use Rattle.frp_core.proofs.fits.+is_value.Given as goal

abbrev pub invariant-all_are-loop-value : goal.invariant-all_are-loop-value
invariant-all_are-loop-value l = all_of (map (is_value l.prog (node_in l.nodes)) (drop l.value-index l.values)) l.ty ≡ all_of (map (is_value l.prog (node_in l.nodes)) l.values) l.ty

abbrev pub invariant-are_values-loop-i : goal.invariant-are_values-loop-i
invariant-are_values-loop-i l = each_of (map (is_value l.prog (node_in l.nodes)) (drop l.i l.values)) (drop l.i l.tys) ≡ each_of (map (is_value l.prog (node_in l.nodes)) l.values) l.tys
