use Rattle.frp_graph.proofs.Combining as combining
use Rattle.frp_graph.proofs.laws.sends_are_combined.Goals as goal

pub returns : goal.returns
returns c = combining.sends_are_combined
