use Rattle.std.proofs.Common.{◌≡◌, ◌+◌, ◌++◌, drop, map}
use Rattle.frp_file.specs.declared.file.Decl.TheVariants as d
use Rattle.frp_sugar.specs.Expanding.{body_items, body_functions, body_hidden_functions}
use Rattle.frp_sugar.proofs.expanding.body.Given as goal

abbrev pub invariant-loop-i : goal.invariant-loop-i
invariant-loop-i l = record {
  items : l.all ++ body_items l.next.items l.next.functions (drop l.i-index l.items) ≡ body_items 0 l.fn.functions l.fn.items;
  decls : l.out ++ map d.Function (body_functions l.next.functions (drop l.i-index l.items)) ≡ l.fn.out ++ map d.Function (body_functions l.fn.functions l.fn.items);
  functions : l.next.functions + body_hidden_functions (drop l.i-index l.items) ≡ l.fn.functions + body_hidden_functions l.fn.items;
}
