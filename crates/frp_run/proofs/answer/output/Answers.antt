use Rattle.std.proofs.Common.{◌≡◌, length, ap, ◌∙◌, arith}
use Rattle.frp_graph.specs.declared.limits.Limits.{Limits}
use Rattle.frp_graph.specs.Limits.{program_limits}
use Rattle.frp_type.specs.declared.typed.Typed.{Typed}
use Rattle.frp_run.proofs.TooLarge.{too_large}
use Rattle.frp_run.proofs.answer.output.Goals as goal

pub returns-then-as_slice-program : goal.returns-then-as_slice-program
returns-then-as_slice-program c =
    let prog = c.args.source.typed.prog in
    let lines : length c.as_slice.result.now ≡ length prog.body.lines = ap length (c.as_slice.ensures ∙ ap (λ (t : Typed). t.prog.body.lines) c.get.ensures) in
    let nodes : c.program.result.nodes ≡ program_limits.nodes = ap (λ (l : Limits). l.nodes) c.program.ensures in
    let more = c.if-as_slice-program.true in
    too_large prog c.requires.built (omega arith)
