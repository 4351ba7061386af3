use Rattle.std.proofs.Common.{◌≡◌, ◌<◌, ℕ, ◌+◌, ◌-◌, List, ◌++◌, arith, sym, ap, ◌∙◌}
use Rattle.std.specs.Prelude.{fold}
use Rattle.std.specs.List.{range_with_len, scan}
use Rattle.frp_gen.specs.declared.item.Item.{Item}
use Rattle.frp_gen.specs.Generated.{drawn_item, item_text, item_texts}
use Rattle.frp_gen.proofs.Ranges.{fold-first, item_texts-first}
use Rattle.frp_gen.proofs.generator.write_items.Goals as goal

pub loop-i-preserved : goal.loop-i-preserved
loop-i-preserved c =
    let next : ℕ → ℕ → ℕ = λ y i. (drawn_item i y).0 in
    let out : ℕ → ℕ → Item = λ y i. (drawn_item i y).1 in
    let i : ℕ = c.loop-i.i in
    let e : ℕ = c.args.count + 1 in
    let x : ℕ = c.loop-i.draws.state in
    let lt : i < e = omega arith in
    let rest : List ℕ = range_with_len (i + 1) (e - (i + 1)) in
    let state : c.draw_item-item.new.draws.state ≡ next x i = c.draw_item-item.ensures.state in
    let item : c.draw_item-item.result ≡ out x i = c.draw_item-item.ensures.item in
    let written : c.write_item.new.out ≡ c.loop-i.out ++ item_text i (out x i)
    = c.in_ok-write_item.ensures ∙ ap (λ it. c.loop-i.out ++ item_text i it) item in (
      ap (λ y. fold next y rest) state ∙ sym (fold-first next x i e lt) ∙ c.loop-i.invariant.0,
      ap (λ y. c.write_item.new.out ++ item_texts (i + 1) (scan next out y rest)) state
          ∙ ap (λ t. t ++ item_texts (i + 1) (scan next out (next x i) rest)) written
          ∙ sym (item_texts-first next out c.loop-i.out x i e lt) ∙ c.loop-i.invariant.1,
    )
