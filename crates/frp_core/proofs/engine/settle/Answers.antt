use Rattle.std.proofs.Common.{[], sym}
use Rattle.std.specs.Option.{option_copied}
use Rattle.frp_core.proofs.Settling.{settled_length}
use Rattle.frp_core.proofs.engine.settle.Goals as goal

pub facts-requires : goal.facts-requires
facts-requires c = rw c.as_slice.ensures
    (sym (settled_length c.args.prog.now c.args.place (option_copied c.args.sent) [] c.args.nodes.now c.in_ok-occs.occs c.in_ok-occs.ensures))
