use Rattle.std.proofs.Common.{◌≡◌, ◌+◌, ◌^◌, ◌≤◌, drop}
use Rattle.frp_lex.specs.Atoms.{number_from}
use Rattle.frp_lex.proofs.number.value.Given as goal

abbrev pub invariant-loop-b : goal.invariant-loop-b
invariant-loop-b l = (number_from l.n (drop l.b-index l.digits) ≡ number_from 0 l.digits) × (l.n ≤ 2 ^ 63 + 207)
