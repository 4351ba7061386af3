use Rattle.std.proofs.Common.{◌≡◌, ◌++◌, map}
use Rattle.frp_file.specs.declared.file.Decl.TheVariants as d
use Rattle.frp_sugar.proofs.expanding.add_items.Given as goal

abbrev pub invariant-loop-i : goal.invariant-loop-i
invariant-loop-i l = l.out ≡ l.fn.out ++ map d.Item l.yielded
