use Rattle.std.proofs.Common.{◌≡◌, ◌<◌, ℕ, ◌+◌, ◌-◌, List, ◌++◌, arith, sym, ap, ◌∙◌}
use Rattle.std.specs.List.{range_with_len, scan}
use Rattle.frp_gen.specs.Generated.{draw, send_text, send_texts}
use Rattle.frp_gen.proofs.Ranges.{send_texts-first}
use Rattle.frp_gen.proofs.generator.write_sends.Goals as goal

pub loop-preserved : goal.loop-preserved
loop-preserved c =
    let next : ℕ → ℕ → ℕ = λ y i. (draw 1000 y).0 in
    let out : ℕ → ℕ → ℕ = λ y i. (draw 1000 y).1 in
    let i : ℕ = c.loop.counter in
    let e : ℕ = c.args.n in
    let x : ℕ = c.loop.draws.state in
    let lt : i < e = omega arith in
    let rest : List ℕ = range_with_len (i + 1) (e - (i + 1)) in
    let state : c.below-value.new.self.state ≡ next x i = c.below-value.ensures.state in
    let value : c.below-value.result ≡ out x i = c.below-value.ensures.value in
    let written : c.write_around.new.out ≡ c.loop.out ++ send_text (out x i)
    = c.in_ok-write_around.ensures ∙ ap (λ v. c.loop.out ++ send_text v) value in
    ap (λ y. c.write_around.new.out ++ send_texts (scan next out y rest)) state
    ∙ ap (λ t. t ++ send_texts (scan next out (next x i) rest)) written
    ∙ sym (send_texts-first next out c.loop.out x i e lt) ∙ c.loop.invariant
