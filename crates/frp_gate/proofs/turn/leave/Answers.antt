use Rattle.std.proofs.Common.{rules, [], ◌∷◌, refl, ◌∙◌, ap, ℕ, ◌+◌, ◌%◌, ◌^◌}
use Rattle.frp_gate.proofs.Totals.{next_word}
use Rattle.frp_gate.proofs.Seated.{puts_back_as, passes_on_as, after_put_back}
use Rattle.frp_gate.proofs.turn.leave.Goals as goal
use Rattle.frp_gate.specs.Views.{put_down}

pub load-requires : goal.load-requires
load-requires g c = let h = c.requires.held in
    (search rules, search rules, puts_back_as g.M.Machine.history g.M.Machine.fixed c.args.gate.now.key _ _ _ h.0 h.1 h.2 h.4 h.5 h.6)

pub store-requires : goal.store-requires
store-requires g c = let h = c.requires.held in
    let is = after_put_back g.M.Machine.history g.M.Machine.fixed _ _ h.0 ((0, h.1) ∷ []) h.2 c.load.ensures.2 in
    (search rules, search rules, passes_on_as g.M.Machine.history g.M.Machine.fixed c.args.gate.now.key _ _ _ (put_down h.0) _ [] is h.3 refl (ap (λ (n : ℕ). (n + 1) % 2 ^ 64) h.7 ∙ next_word h.0.ticket))
