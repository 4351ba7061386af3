use Rattle.std.proofs.Common.{◌≡◌, ◌++◌, ◌∷◌, ◌+◌, [], drop, append_assoc, suc, sym, ap, ◌∙◌, arith}
use Rattle.frp_store.specs.declared.held.Held.{Held}
use Rattle.frp_store.specs.Lists.{nodes_of}
use Rattle.frp_store.proofs.Setting.{get_map}
use Rattle.frp_store.proofs.Ending.{drop_at}
use Rattle.frp_store.proofs.tables.Tables.copies.Goals as goal

pub loop-place-preserved : goal.loop-place-preserved
loop-place-preserved c =
    let held = c.args.self.now.held.items in
    let p = c.loop-place.place in
    let x = c.get.result.now.node in
    let born = c.loop-place.born.items in
    let rest = drop (p + 1) (nodes_of held) in
    let more : suc p ≡ p + 1 = omega arith in
    record {
      inside = (let t = c.loop-place-test.true in let n = c.len.ensures in omega arith);
      copied =
          ap (λ vs. vs ++ rest) (c.in_ok-push.ensures.items ∙ ap (λ y. born ++ y ∷ []) c.in_ok-copy_node.ensures) ∙ append_assoc born (x ∷ []) rest
          ∙ ap (λ l. born ++ l) (sym (drop_at (nodes_of held) p x (get_map (λ (h : Held). h.node) held p c.get.result.now c.get.ensures) ∙ ap (λ n. x ∷ drop n (nodes_of held)) more)) ∙ c.loop-place.invariant.copied;
    }
