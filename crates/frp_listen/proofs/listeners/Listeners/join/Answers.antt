use Rattle.std.proofs.Common.{◌++◌, ap, ◌∙◌}
use Rattle.frp_listen.specs.Listeners.{left_of}
use Rattle.frp_listen.proofs.Remaining.{window_left}
use Rattle.frp_listen.proofs.listeners.Listeners.join.Goals as goal

pub returns-in-Ok-clause-window : goal.returns-in-Ok-clause-window
returns-in-Ok-clause-window c first before later after =
    ap (left_of (c.args.trace.now ++ later)) c.in-Ok.ensures.held
    ∙ window_left c.args.trace.now later c.args.caller c.args.place c.args.node c.args.first first before after
