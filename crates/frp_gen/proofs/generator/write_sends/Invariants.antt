use Rattle.std.proofs.Common.{◌≡◌, ◌-◌, ◌++◌, ℕ}
use Rattle.std.specs.List.{range_with_len, scan}
use Rattle.frp_gen.specs.Generated.{draw, sends, send_texts}
use Rattle.frp_gen.proofs.generator.write_sends.Given as goal

-- what is written so far, and the sends that are left, are the whole
abbrev pub invariant-loop : goal.invariant-loop
invariant-loop l =
    l.out ++ send_texts (scan (λ (y i : ℕ). (draw 1000 y).0) (λ (y i : ℕ). (draw 1000 y).1) l.draws.state (range_with_len l.counter (l.fn.n - l.counter)))
    ≡ l.fn.out ++ send_texts (sends l.fn.n l.fn.draws.state)
