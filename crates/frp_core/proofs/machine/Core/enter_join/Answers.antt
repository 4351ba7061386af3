use Rattle.frp_core.proofs.Cores.{join_quiet}
use Rattle.frp_core.proofs.machine.Core.enter_join.Goals as goal

pub enter-requires-clause-quiet : goal.enter-requires-clause-quiet
enter-requires-clause-quiet c = rw c.join_reply.ensures (join_quiet c.args.self.now c.args.caller c.args.node _ c.next_key-key.ensures.reply c.next_key-key.ensures.plain)
