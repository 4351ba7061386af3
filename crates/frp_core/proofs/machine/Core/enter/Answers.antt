use Rattle.frp_core.proofs.Cores.{entered}
use Rattle.frp_core.proofs.machine.Core.enter.Goals as goal

pub invariant_of-self-2 : goal.invariant_of-self-2
invariant_of-self-2 c = entered _ c.args.self.now c.self.view_is c.self.invariant c.requires.room c.args.entry c.requires.quiet _ c.in_ok-add.ensures.ok
