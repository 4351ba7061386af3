use Rattle.std.proofs.Common.{◌≡◌, drop, false}
use Rattle.frp_lex.specs.Quoted.{closing_quote}
use Rattle.frp_lex.proofs.quoted.closing.Given as goal

abbrev pub invariant-loop-i : goal.invariant-loop-i
invariant-loop-i l = closing_quote l.escaped l.i (drop l.i l.bytes) ≡ closing_quote false 0 l.bytes
