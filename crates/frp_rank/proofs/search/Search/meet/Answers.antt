use Rattle.std.proofs.Common.{◌≡◌, ◌<◌, true, false, length, ap, sym, ◌∙◌, subst, inr, arith}
use Rattle.std.proofs.lemmas.Bool.Decides.{nat_tests}
use Rattle.frp_rank.specs.Chain.{is_linked}
use Rattle.frp_rank.specs.Graph.{edge_at, start_of, end_of, live_links}
use Rattle.frp_rank.specs.Search.{has_visit}
use Rattle.frp_rank.proofs.Filing.{read_edge, linked_edge}
use Rattle.frp_rank.proofs.Visiting.{grows_refl, grows_push, search_more, now_visited, close_lives}
use Rattle.frp_rank.proofs.search.Search.meet.Goals as goal
use Rattle.frp_rank.proofs.search.Search.meet.Goals.{else-is_close-via-then-is_close+else-not-is_visited, else-is_close-via-else-is_close}

pub returns-in_ok-note-clause-search : goal.returns-in_ok-note-clause-search
returns-in_ok-note-clause-search c =
    let s = c.args.self.now in
    let edge = c.get-edge.result.now in
    let e : edge_at s.edges.now.items c.args.number ≡ edge = read_edge s.edges.now.items c.args.number _ c.get-edge.ensures in
    let inside : edge.from < length s.ranks.now.items = subst (λ x. x.from < length s.ranks.now.items) e (c.requires.able.filed.starts c.args.number c.requires.number) in
    let new : has_visit c.args.visits.now.items edge.from ≡ false = (let v = rw c.as_slice.ensures.value at c.is_visited.ensures in grind (arith, nat_tests, v, c.if-not-is_visited.true)) in
    let live : edge.live ≡ true = close_lives s.ranks.now.items s.by edge (sym c.is_close.ensures ∙ c.if-is_close.true) in
    let linked : is_linked (live_links s.edges.now.items) edge.from edge.to ≡ true = subst (λ x. is_linked (live_links s.edges.now.items) x.from x.to ≡ true) e (linked_edge s.edges.now.items c.args.number c.requires.number (ap (λ x. x.live) e ∙ live)) in
    let reached : has_visit c.args.visits.now.items edge.to ≡ true = subst (λ x. has_visit c.args.visits.now.items x.to ≡ true) e c.requires.reached in
    rw (c.in_ok-note.ensures.slots, c.in_ok-note.ensures.visits)
    (search_more s c.args.slots.now.items c.args.visits.now.items (record { place = edge.from; through = edge.to }) c.requires.search inside new (inr (linked, reached)))

pub returns-in_ok-note-clause-grows : goal.returns-in_ok-note-clause-grows
returns-in_ok-note-clause-grows c = rw c.in_ok-note.ensures.visits (grows_push c.args.visits.now.items _)

pub returns-else-is_close-clause-grows : goal.returns-else-is_close-clause-grows
returns-else-is_close-clause-grows c = grows_refl c.args.visits.now.items

pub returns-in_ok-note-clause-met : goal.returns-in_ok-note-clause-met
returns-in_ok-note-clause-met c = λ h.
    let s = c.args.self.now in
    let edge = c.get-edge.result.now in
    let e : edge_at s.edges.now.items c.args.number ≡ edge = read_edge s.edges.now.items c.args.number _ c.get-edge.ensures in
    rw (c.in_ok-note.ensures.visits, e) (now_visited c.args.visits.now.items (record { place = edge.from; through = edge.to }))

pub returns-else-is_close-clause-met : goal.returns-else-is_close-clause-met
returns-else-is_close-clause-met c = λ h.
    let s = c.args.self.now in
    let edge = c.get-edge.result.now in
    let e : edge_at s.edges.now.items c.args.number ≡ edge = read_edge s.edges.now.items c.args.number _ c.get-edge.ensures in
    elim c.else-is_close.branch [
      | else-is_close-via-then-is_close+else-not-is_visited w ↦ rw e (let v = rw w.as_slice.ensures.value at w.is_visited.ensures in grind (arith, nat_tests, v, w.if-not-is_visited.false))
      | else-is_close-via-else-is_close w ↦ absurd (let k = rw e at h in grind (arith, nat_tests, k, c.is_close.ensures, w.if-is_close.false))
    ]
