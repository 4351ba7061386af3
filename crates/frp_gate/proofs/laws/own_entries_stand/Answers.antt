use Rattle.frp_gate.proofs.Standing as law
use Rattle.frp_gate.proofs.laws.own_entries_stand.Goals as goal

pub returns : goal.returns
returns g c = law.own_entries_stand g.row.M-Cmd.Denot g.row.M-Reply.Denot
