use Rattle.std.proofs.Common.{◌≡◌, ◌-◌, ◌++◌, ℕ}
use Rattle.std.specs.Prelude.{fold}
use Rattle.std.specs.List.{range_with_len, scan}
use Rattle.frp_gen.specs.Generated.{drawn_item, items, after_items, item_texts}
use Rattle.frp_gen.proofs.generator.write_items.Given as goal

-- what is drawn and written so far, and what is drawn for the numbers that are left, are the whole
abbrev pub invariant-loop-i : goal.invariant-loop-i
invariant-loop-i l =
    (fold (λ (y i : ℕ). (drawn_item i y).0) l.draws.state (range_with_len l.i (l.i-end - l.i)) ≡ after_items l.fn.count l.fn.draws.state)
    × (l.out ++ item_texts l.i (scan (λ (y i : ℕ). (drawn_item i y).0) (λ (y i : ℕ). (drawn_item i y).1) l.draws.state (range_with_len l.i (l.i-end - l.i)))
    ≡ l.fn.out ++ item_texts 1 (items l.fn.count l.fn.draws.state))
