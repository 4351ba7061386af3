use Rattle.std.proofs.Common.{◌≡◌, ◌++◌, drop}
use Rattle.frp_make.specs.Search.{missing_from, missing_among}
use Rattle.frp_make.proofs.search.missing.Given as goal

abbrev pub invariant-loop-place : goal.invariant-loop-place
invariant-loop-place l = l.places.items ++ missing_from l.place (drop l.place l.nodes) ≡ missing_among l.nodes
