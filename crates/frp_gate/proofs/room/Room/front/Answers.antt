use Rattle.std.proofs.Common.{rules, []}
use Rattle.frp_gate.proofs.Seated.{reads_as}
use Rattle.frp_gate.proofs.Turns.{rested}
use Rattle.frp_gate.proofs.room.Room.front.Goals as goal

pub load-requires : goal.load-requires
load-requires g c = let r = rested _ _ c.args.pass.now.rests in
    (search rules, search rules, reads_as g.M.Machine.history g.M.Machine.fixed c.args.self.now.table.shared.key _ _ _ r.0 [] r.1)
