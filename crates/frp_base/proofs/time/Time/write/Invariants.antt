use Rattle.std.proofs.Common.{◌≡◌, [], ◌∷◌, ◌++◌, drop}
use Rattle.frp_base.specs.Time.{more_numbers, time_text}
use Rattle.frp_base.proofs.time.Time.write.Given as goal

-- what is written so far, what is left and the bracket are the whole
abbrev pub invariant-loop-n : goal.invariant-loop-n
invariant-loop-n l = l.out ++ more_numbers (drop l.n-index l.n-items) ++ 93 ∷ [] ≡ l.fn.out ++ time_text l.fn.self
