use Rattle.frp_core.proofs.Cores.{unchanged}
use Rattle.frp_core.proofs.machine.Core.enter_moment.Goals as goal

pub invariant_of-self-2 : goal.invariant_of-self-2
invariant_of-self-2 c =
    unchanged _ c.args.moment c.add-2.result c.is_ok.result c.pop.result _ _ _ c.self.invariant c.in_ok-add.ensures.ok c.add-2.ensures.err c.is_ok.ensures.value c.if-is_ok.false c.pop.ensures
