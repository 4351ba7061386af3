use Rattle.std.proofs.Common.{rules, refl, ◌≡◌, ℕ, ◌∷◌, ◌<◌, ◌^◌, [], length, List, Some, sym, ap, ◌∙◌, subst}
use Rattle.atomic_table.specs.Table.{opening}
use Rattle.frp_gate.specs.declared.view.Start.{Start}
use Rattle.frp_gate.proofs.Keeps.{opens}
use Rattle.frp_gate.proofs.gate.gate_of.Goals as goal
use Rattle.frp_gate.specs.Rule.{Kept}
use Rattle.frp_gate.specs.Views.{fresh_view}

pub new-requires : goal.new-requires
new-requires g c =
    let L = g.M.Machine.history in
    let F = g.M.Machine.fixed in
    let k : Start g.row.M.Denot = record { callers = c.args.callers; machine = c.of.result } in
    let a : c.entries.result ≡ length (L k.machine.value) = c.entries.ensures
    ∙ ap (λ m. length (L m)) (sym c.of.ensures) in
    let b : c.push_reserved.new.self.items ≡ c.of.result.value ∷ [] = search rules in
    let few : k.callers < 2 ^ 32 = search rules in
    let view = fresh_view 0 k.callers k.machine.value (length (L k.machine.value)) in
    subst (λ (z : ℕ × List g.row.M.Denot). Kept L F k (opening (0 ∷ 0 ∷ z.0 ∷ []) z.1 (Some view)))
    (λ i. (sym a i, sym b i))
    (opens L F k (length (L k.machine.value)) refl few)
