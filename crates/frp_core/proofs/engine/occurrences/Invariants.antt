use Rattle.std.proofs.Common.{[], take}
use Rattle.std.specs.Option.{option_copied}
use Rattle.frp_core.specs.Engine.{AreSettled}
use Rattle.frp_core.proofs.engine.occurrences.Given as goal

abbrev pub invariant-loop-node : goal.invariant-loop-node
invariant-loop-node l = AreSettled l.prog l.place (option_copied l.sent) [] (take l.node-index l.nodes) l.occs
