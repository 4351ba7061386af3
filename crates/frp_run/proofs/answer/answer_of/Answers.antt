use Rattle.frp_run.proofs.Runnable.{runnable}
use Rattle.frp_run.proofs.answer.answer_of.Goals as goal

pub output-requires : goal.output-requires
output-requires c = runnable c.args.mode c.args.bytes.now c.in-Ok.source c.requires c.in-Ok.ensures
