use Rattle.std.proofs.Common.{◌^◌, ◌<◌, drop, arith}
use Rattle.std.proofs.lemmas.Grind.{common_steps}
use Rattle.frp_lex.specs.Atoms.{number_from}
use Rattle.frp_lex.proofs.Numbers.{value_over}
use Rattle.frp_lex.proofs.number.value.Goals as goal

pub returns-then-n : goal.returns-then-n
returns-then-n c =
    let over : 2 ^ 63 < number_from c.loop-b.n (drop c.loop-b.b-index c.args.digits.now) = value_over c.loop-b.n c.loop-b.b-index c.args.digits.now (omega arith) (omega arith) in
    let is = c.loop-b.invariant.0 in
    let large : 2 ^ 63 < number_from 0 c.args.digits.now = omega arith in
    grind (arith, common_steps)
