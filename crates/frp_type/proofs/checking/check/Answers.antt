use Rattle.std.proofs.Common.{rules}
use Rattle.frp_type.proofs.Finished.{finished}
use Rattle.frp_type.proofs.checking.check.Goals as goal

pub returns-clause-typed : goal.returns-clause-typed
returns-clause-typed c = finished c.args.file.now c.in_ok-state.state c.program.result c.in_ok-labels.labels c.in_ok-listens.listens c.in_ok-scripts.scripts c.requires.core (search rules) (search rules) (search rules) (search rules) (search rules) c.program.ensures (search rules) (search rules) (search rules)
