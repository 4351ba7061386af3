use Rattle.std.proofs.Common.{◌≡◌, ◌<◌, drop, true, false}
use Rattle.frp_lex.specs.Quoted.{first_bad}
use Rattle.frp_lex.proofs.quoted.first_bad.Given as goal

abbrev pub invariant-loop-i : goal.invariant-loop-i
invariant-loop-i l = (first_bad l.escaped l.i (drop l.i l.bytes) ≡ first_bad false 0 l.bytes) × (l.escaped ≡ true → 0 < l.i)
