use Rattle.std.proofs.Common.{◌≡◌, ◌++◌, drop, false}
use Rattle.frp_lex.specs.Quoted.{unescaped}
use Rattle.frp_lex.proofs.quoted.unescaped.Given as goal

abbrev pub invariant-loop-b : goal.invariant-loop-b
invariant-loop-b l = l.text ++ unescaped l.escaped (drop l.b-index l.bytes) ≡ unescaped false l.bytes
