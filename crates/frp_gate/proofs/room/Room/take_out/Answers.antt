use Rattle.std.proofs.Common.{◌∙◌}
use Rattle.frp_gate.proofs.Gathers.{hands_out}
use Rattle.frp_gate.proofs.room.Room.take_out.Goals as goal

pub returns : goal.returns
returns g c =
    hands_out g.M.Machine.history g.M.Machine.fixed c.args.self.table.shared.key _ _ _ _ c.args.passes.items c.take-machine.result
    c.gather-seat.ensures.joined (c.requires.all
    ∙ c.args.self.numbered) c.close_with-closed.ensures.values.2 c.take-machine.ensures.value
