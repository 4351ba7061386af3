use Rattle.std.proofs.Common.{◌≡◌, drop, map}
use Rattle.std.specs.List.{list_all}
use Rattle.frp_expr.specs.Raw.{is_lawful}
use Rattle.frp_expr.proofs.lawful.+lawful.Given as goal

abbrev pub invariant-are_lawful-loop-part : goal.invariant-are_lawful-loop-part
invariant-are_lawful-loop-part l = list_all (λ b. b) (map is_lawful (drop l.part-index l.parts)) ≡ list_all (λ b. b) (map is_lawful l.parts)
