use Rattle.std.proofs.Common.{◌≡◌, ◌∷◌, take}
use Rattle.frp_make.proofs.making.given.Given as goal

abbrev pub invariant-loop-value : goal.invariant-loop-value
invariant-loop-value l = l.given ≡ l.value ∷ take l.value-index l.kept
