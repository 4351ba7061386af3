use Rattle.std.proofs.Common.{◌≡◌, ◌++◌, drop}
use Rattle.frp_sugar.specs.Expanding.{graph_decls}
use Rattle.frp_sugar.proofs.expanding.expanded_decls.Given as goal

abbrev pub invariant-loop-d : goal.invariant-loop-d
invariant-loop-d l = l.out ++ graph_decls l.next.items l.next.functions (drop l.d-index l.decls) ≡ graph_decls 0 0 l.fn.decls
