use Rattle.std.proofs.Common.{◌≡◌, drop}
use Rattle.std.specs.List.{list_all}
use Rattle.frp_expr.specs.Raw.{is_lawful}
use Rattle.frp_type.proofs.core_files.are_lawful_sends.Given as goal

abbrev pub invariant-loop-s : goal.invariant-loop-s
invariant-loop-s l = list_all (λ x. is_lawful x.value) (drop l.s-index l.sends) ≡ list_all (λ x. is_lawful x.value) l.fn.sends
