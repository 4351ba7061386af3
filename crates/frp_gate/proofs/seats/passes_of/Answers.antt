use Rattle.std.proofs.Common.{rules, arith, ◌≡◌, ℕ, ◌+◌, ◌-◌, ◌≤◌, [], length, refl, sym, ap, ◌∙◌, subst, length-append}
use Rattle.std.specs.Prelude.{All}
use Rattle.std.proofs.lemmas.List.Elements.{All-push}
use Rattle.frp_gate.specs.declared.pass.Pass.{Pass}
use Rattle.frp_gate.specs.Passes.{AreNumbered}
use Rattle.frp_gate.specs.Seats.{IsFresh}
use Rattle.frp_gate.specs.Views.{SeatState, other_passes, first_pass}
use Rattle.frp_gate.proofs.Seated.{splits_as}
use Rattle.frp_gate.proofs.Fresh.{numbered_more, rest_next}
use Rattle.frp_gate.proofs.seats.passes_of.Goals as goal

pub split_seat-one-requires : goal.split_seat-one-requires
split_seat-one-requires g c =
    let block = c.loop-number.invariant.1 in
    let some_left : 1 ≤ c.args.callers - c.loop-number.number = omega arith in
    (search rules, search rules, splits_as g.M.Machine.history g.M.Machine.fixed c.args.gate.now.key _ _ _ block (refl, refl, refl) some_left refl)

pub loop-number-preserved : goal.loop-number-preserved
loop-number-preserved g c =
    let H = g.M.Machine.history in
    let start = c.args.gate.now.key in
    let i = c.loop-number.invariant in
    let s = c.split_seat-one.ensures in
    let items = sym c.push_reserved.ensures.items in
    let n : ℕ = c.loop-number.number in
    let longer : length c.push_reserved.new.self.items ≡ n + 1 =
    ap (λ l. length l) c.push_reserved.ensures.items ∙ length-append c.loop-number.passes.items _
    ∙ ap (λ (k : ℕ). k + 1) i.2 in (
      s.0 ∙ i.0,
      s.2 ∙ ap (λ (m : SeatState g.row.M.Denot). (other_passes m.0, m.1)) i.1 ∙ rest_next H start n c.args.callers,
      longer,
      search rules,
      subst AreNumbered items (numbered_more _ _ i.4 (sym i.2)),
      subst (All (λ (pass : Pass g.row.M.Denot). pass.seat.table_id ≡ c.args.seat.table_id)) items (All-push (λ (pass : Pass g.row.M.Denot). pass.seat.table_id ≡ c.args.seat.table_id) _ _ i.5 (s.3 ∙ i.0)),
      subst (All (IsFresh H start)) items (All-push (IsFresh H start) _ _ i.6 (s.4
          ∙ ap (λ (m : SeatState g.row.M.Denot). (first_pass m.0, [])) i.1)),
    )
