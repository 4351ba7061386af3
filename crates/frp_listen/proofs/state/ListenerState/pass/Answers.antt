use Rattle.std.proofs.Common.{◌≡◌, ◌++◌, drop, ap, subst, ◌∙◌}
use Rattle.frp_listen.specs.declared.state.ListenerState.{ListenerState}
use Rattle.frp_listen.specs.Listeners.{left, happened}
use Rattle.frp_listen.proofs.Remaining.{left_passed}
use Rattle.frp_listen.proofs.state.ListenerState.pass.Goals as goal

pub returns-clause-left : goal.returns-clause-left
returns-clause-left c later =
    let trace = c.args.trace.now in
    let l = c.args.self.now in
    let is : happened l.node (drop c.passed_by.result trace) ≡ drop c.pass_first-more.result (happened l.node (drop l.passed trace))
    = subst (λ (k : ListenerState). happened k.node (drop c.passed_by.result trace) ≡ drop c.pass_first-more.result (happened k.node (drop k.passed trace))) c.pass_first-more.ensures.first c.passed_by.ensures.left in
    ap (λ (k : ListenerState). left (trace ++ later) (record k { passed = c.passed_by.result })) c.pass_first-more.ensures.first
    ∙ left_passed trace l c.args.count c.passed_by.result c.requires.reached c.requires.few c.passed_by.ensures.reached (is ∙ ap (λ n. drop n (happened l.node (drop l.passed trace))) c.pass_first-more.ensures.more) later
