use Rattle.std.proofs.Common.{◌≡◌, ◌++◌, drop, map}
use Rattle.frp_base.specs.declared.ty.Ty.TheVariants as t
use Rattle.frp_expr.specs.Raw.{part_of, items_as, kept_as}
use Rattle.frp_expr.proofs.typing.+typing.Given as goal

abbrev pub invariant-items_of-loop-i : goal.invariant-items_of-loop-i
invariant-items_of-loop-i l = record {
  types : items_as l.ty (map (part_of l.scope.funs) (drop l.i l.items)) (l.scope.names ++ l.bound) ≡ items_as l.ty (map (part_of l.scope.funs) (drop 1 l.items)) (l.scope.names ++ l.fn.bound);
  bound : l.bound ≡ l.fn.bound;
}

abbrev pub invariant-kept_of-loop-i : goal.invariant-kept_of-loop-i
invariant-kept_of-loop-i l = record {
  types : kept_as (drop l.i l.fun.1) (map (part_of l.scope.funs) (drop l.i l.kept)) (l.scope.names ++ l.bound) (t.Fun l.fun.2 l.fun.3) ≡ kept_as l.fun.1 (map (part_of l.scope.funs) l.kept) (l.scope.names ++ l.fn.bound) (t.Fun l.fun.2 l.fun.3);
  bound : l.bound ≡ l.fn.bound;
}
