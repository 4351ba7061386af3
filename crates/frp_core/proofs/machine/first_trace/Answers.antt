use Rattle.std.proofs.Common.{◌≡◌, ◌∷◌, [], ◌++◌, None, ◌∙◌, refl}
use Rattle.std.proofs.Math.Path.{transport}
use Rattle.frp_core.specs.Engine.{AreFacts}
use Rattle.frp_core.proofs.Cores.{build_core}
use Rattle.frp_core.proofs.machine.first_trace.Goals as goal

pub returns : goal.returns
returns c =
    let facts : AreFacts c.args.prog.now c.in_ok-nodes.nodes 0 None c.in_ok-fired.fired =
    transport (λ i. AreFacts c.args.prog.now (c.as_slice.ensures i) 0 None c.in_ok-fired.fired) c.in_ok-fired.ensures in
    let trace : c.add.new.self ≡ record { time = 0 ∷ []; born = c.in_ok-nodes.nodes; fired = c.in_ok-fired.fired } ∷ [] =
    c.in_ok-add.ensures.ok ∙ (λ i. c.new-trace.ensures i ++ record { time = c.top.ensures i; born = c.in_ok-nodes.nodes; fired = c.in_ok-fired.fired } ∷ []) in
    build_core c.args.prog.now c.in_ok-nodes.nodes c.in_ok-fired.fired c.requires.typed c.requires.built c.requires.few c.in_ok-nodes.ensures.nodes c.in_ok-nodes.ensures.small facts [] c.add.new.self refl trace
