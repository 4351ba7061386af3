use Rattle.std.proofs.Common.{◌≡◌, ◌≤◌, ◌-◌, ◌∷◌, [], ◌++◌, ℕ, map, reverse}
use Rattle.std.specs.List.{range_with_len}
use Rattle.frp_agenda.proofs.agenda.children_of.Given as goal

-- the children from that of number i on
abbrev pub invariant-loop-i : goal.invariant-loop-i
invariant-loop-i l =
    (l.i ≤ l.fn.n) × (reverse l.children.items ≡ map (λ (i : ℕ). l.fn.time ++ i ∷ []) (range_with_len l.i (l.fn.n - l.i)))

abbrev pub decreases-loop-i : goal.decreases-loop-i
decreases-loop-i l = l.i
