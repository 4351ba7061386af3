use Rattle.std.proofs.Common.{◌≡◌, ◌++◌, ◌∷◌, ◌+◌, [], ℕ, append_assoc, get_or, drop, sym, ap, ◌∙◌}
use Rattle.std.proofs.lemmas.Option.{get_or_from_slice_get}
use Rattle.frp_rank.specs.declared.visit.Visit.{Visit}
use Rattle.frp_rank.specs.declared.write.Write.{Write}
use Rattle.frp_rank.specs.Search.{visit_at}
use Rattle.frp_rank.specs.Plans.{risen_writes}
use Rattle.frp_rank.proofs.Writing.{risen_step}
use Rattle.frp_rank.proofs.search.Search.rises.Goals as goal

pub loop-visit-preserved : goal.loop-visit-preserved
loop-visit-preserved c =
    let s = c.args.self.now in
    let ranks = s.ranks.now.items in
    let i : ℕ = c.loop-visit.visit-index in
    let visit : Visit = visit_at c.args.visits.now i in
    let before = c.loop-visit.writes.items in
    let after = risen_writes ranks s.by (drop (i + 1) c.args.visits.now) in
    let write : Write = record { place = visit.place; rank = get_or ranks visit.place 0 + s.by } in
    let read : get_or ranks visit.place 0 ≡ c.get-rank.result.now = get_or_from_slice_get ranks visit.place _ 0 c.get-rank.ensures in
    let pushed : c.push.new.self.items ≡ before ++ write ∷ [] = c.in_ok-push.ensures.items ∙ ap (λ r. before ++ (record { place = visit.place; rank = r + s.by }) ∷ []) (sym read) in
    ap (λ ws. ws ++ after) pushed ∙ append_assoc before (write ∷ []) after ∙ ap (λ ws. before ++ ws) (sym (risen_step ranks s.by i c.args.visits.now c.loop-visit-test.true)) ∙ c.loop-visit.invariant
