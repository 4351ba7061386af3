use Rattle.frp_make.proofs.Steps.{grown_more}
use Rattle.frp_make.proofs.search.Search.run.Goals as goal

pub loop-place-preserved : goal.loop-place-preserved
loop-place-preserved g c = record {
  search = c.in_ok-step.ensures.search;
  grown = grown_more c.args.self.now.nodes.items c.loop-place.self.nodes.items c.step.new.self.nodes.items c.loop-place.invariant.grown c.in_ok-step.ensures.grown;
}
