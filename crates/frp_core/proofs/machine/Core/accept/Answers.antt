use Rattle.std.proofs.Common.{◌≡◌, ◌+◌, ◌∷◌, [], length, Some, ap, ◌∙◌, subst}
use Rattle.std.proofs.Math.Path.{transport}
use Rattle.frp_graph.specs.Trace.{live}
use Rattle.frp_core.specs.Core.{State, IsCore}
use Rattle.frp_core.specs.Engine.{AreFacts}
use Rattle.frp_core.proofs.Cores.{sent_core}
use Rattle.frp_core.proofs.machine.Core.accept.Goals as goal

pub enter_moment-requires : goal.enter_moment-requires
enter_moment-requires c =
    let old = c.args.self.now in
    let core : IsCore old = subst IsCore c.self.view_is c.self.invariant in
    let entries = c.as_slice.ensures ∙ ap (λ (s : State). s.entries) c.self.view_is in
    let facts : AreFacts old.prog (live old.trace) (length old.entries + 1) (Some c.args.fact) c.in_ok-fired.fired =
    transport (λ i. AreFacts (c.self.view_is i).prog (c.nodes.ensures i) (length (entries i) + 1) (Some c.args.fact) c.in_ok-fired.fired) c.in_ok-fired.ensures in
    sent_core old core c.requires.room c.args.caller c.args.fact c.in_ok-fired.fired facts c.requires.sink _
    (λ i. record { time = (c.top.ensures ∙ ap (λ es. (length es + 1) ∷ []) entries) i; born = c.new.ensures i; fired = c.in_ok-fired.fired })
