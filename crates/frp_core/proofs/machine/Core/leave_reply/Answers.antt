use Rattle.std.proofs.Common.{ap, ◌∙◌, subst, sym}
use Rattle.frp_history.specs.Windows.{window}
use Rattle.frp_history.specs.Listeners.{listener}
use Rattle.frp_core.specs.Core.{State, IsCore}
use Rattle.frp_core.proofs.Cores.{leaves_own}
use Rattle.frp_core.proofs.machine.Core.leave_reply.Goals as goal

pub returns-in_ok-items-in-Ok-clause-reply : goal.returns-in_ok-items-in-Ok-clause-reply
returns-in_ok-items-in-Ok-clause-reply c =
    let entries = c.as_slice.ensures ∙ ap (λ (s : State). s.entries) c.self.view_is in
    let trace = c.as_slice-in-Ok.ensures ∙ ap (λ (s : State). s.trace) c.self.view_is in
    leaves_own c.args.self.now (subst IsCore c.self.view_is c.self.invariant) c.args.caller c.args.key c.in-Ok.node.now c.in_ok-items-in-Ok.items
    (ap (λ es. listener es c.args.key) (sym entries) ∙ c.in-Ok.ensures.held)
    (c.in_ok-items-in-Ok.ensures ∙ ap (λ ms. window ms c.in-Ok.node.now c.args.key.place) trace)
