use Rattle.std.proofs.Common.{rules, ◌≡◌, [], ap, ◌∙◌, Some}
use Rattle.std.proofs.lemmas.List.Elements.{All-pop}
use Rattle.frp_gate.specs.declared.pass.Pass.{Pass}
use Rattle.frp_gate.proofs.Turns.{rested}
use Rattle.frp_gate.proofs.Gathers.{gather_first, gather_next, gather_last, joins_as}
use Rattle.frp_gate.proofs.seats.gather.Goals as goal

pub loop-next-init : goal.loop-next-init
loop-next-init g c =
    let p = All-pop (λ (pass : Pass g.row.M.Denot). pass.seat.table_id ≡ c.args.gate.now.table_id) _ _ (Some c.in-Some.last) c.in-Some.ensures.items c.requires.seats in
    (p.1, p.0, gather_first _ _ c.in-Some.last c.in-Some.ensures.items c.in-Some.last.rests)

pub join_seat-requires : goal.join_seat-requires
join_seat-requires g c =
    let i = c.loop-next.invariant in
    let p = All-pop (λ (pass : Pass g.row.M.Denot). pass.seat.table_id ≡ c.args.gate.now.table_id) _ _ (Some c.in-Some-pop.next) c.in-Some-pop.ensures.items i.1 in
    let r = rested _ _ c.in-Some-pop.next.rests in (
      i.0,
      p.1,
      ap (λ m. m.1) r.1,
      search rules,
      joins_as g.M.Machine.history g.M.Machine.fixed c.args.gate.now.key _ _ _ _ _ i.2.0 r i.2.3.0 i.2.3.1,
    )

pub loop-next-preserved : goal.loop-next-preserved
loop-next-preserved g c =
    let i = c.loop-next.invariant in
    let p = All-pop (λ (pass : Pass g.row.M.Denot). pass.seat.table_id ≡ c.args.gate.now.table_id) _ _ (Some c.in-Some-pop.next) c.in-Some-pop.ensures.items i.1 in (
      c.join_seat.ensures.0 ∙ i.0,
      p.0,
      gather_next _ _ _ c.in-Some-pop.next _ _ i.2 c.in-Some-pop.ensures.items c.in-Some-pop.next.rests c.join_seat.ensures.2,
    )

pub returns-clause-joined : goal.returns-clause-joined
returns-clause-joined g c =
    let none : c.loop-next.passes.items ≡ [] = search rules in
    gather_last _ _ _ c.loop-next.invariant.2 none
