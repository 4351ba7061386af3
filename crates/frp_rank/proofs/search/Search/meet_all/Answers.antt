use Rattle.std.proofs.Common.{◌≡◌, ◌<◌, ◌+◌, ◌-◌, ℕ, true, length, get_or, suc, refl, sym, ap, ◌∙◌, subst, inl, inr, arith}
use Rattle.std.proofs.lemmas.Bool.{cases_lt}
use Rattle.std.proofs.lemmas.Option.{get_or_from_slice_get}
use Rattle.frp_rank.specs.declared.edge.Edge.{Edge}
use Rattle.frp_rank.specs.declared.visit.Visit.{Visit}
use Rattle.frp_rank.specs.Graph.{edge_at, end_of, latest}
use Rattle.frp_rank.specs.Search.{has_visit, visit_at, no_visit, IsMet}
use Rattle.frp_rank.proofs.Filing.{latest_le, latest_fixed, latest_none, read_edge, read_at, Steps, steps_from}
use Rattle.frp_rank.proofs.Visiting.{grows_refl, grows_trans, grown, visited_at}
use Rattle.frp_rank.proofs.search.Search.meet_all.Goals as goal

pub loop-at-init : goal.loop-at-init
loop-at-init c =
    let s = c.args.self.now in
    let place = c.index.result.now.place in
    let v : visit_at c.args.visits.now.items c.args.number ≡ c.index.result.now = read_at c.args.visits.now.items c.args.number no_visit _ c.requires.number c.index.ensures in
    let inside : place < length s.ranks.now.items = subst (λ (x : Visit). x.place < length s.ranks.now.items) v (c.requires.search.inside c.args.number c.requires.number) in
    let at : c.get-at.result.now ≡ latest (end_of s.edges.now.items) (length s.edges.now.items) place = sym (get_or_from_slice_get s.last_in.now.items place _ 0 c.get-at.ensures) ∙ c.requires.able.last_in place inside in
    rw at (record {
      slots = refl;
      search = c.requires.search;
      grows = grows_refl _;
      inside = latest_le (end_of s.edges.now.items) (length s.edges.now.items) place;
      last = latest_fixed (end_of s.edges.now.items) (length s.edges.now.items) place;
      met = λ i a b e k. absurd (latest_none (end_of s.edges.now.items) (length s.edges.now.items) place i a b e);
    })

pub meet-requires-clause-reached : goal.meet-requires-clause-reached
meet-requires-clause-reached c =
    let s = c.args.self.now in
    let v : visit_at c.args.visits.now.items c.args.number ≡ c.index.result.now = read_at c.args.visits.now.items c.args.number no_visit _ c.requires.number c.index.ensures in
    let positive : c.loop-at.at ≡ suc (c.loop-at.at - 1) = (let h = c.loop-at-test.true in omega arith) in
    let ends : end_of s.edges.now.items (c.loop-at.at - 1) ≡ c.index.result.now.place = (steps_from (end_of s.edges.now.items) c.loop-at.at (c.loop-at.at - 1) c.index.result.now.place positive c.loop-at.invariant.last).0 in
    rw (ends, ← v) (grown _ c.loop-at.visits.items _ c.loop-at.invariant.grows (visited_at c.args.visits.now.items c.args.number c.requires.number))

-- the edge before the one that was met
stepped : (c : goal.After-get) → Steps (end_of c.args.self.now.edges.now.items) c.loop-at.at c.get.result.now.earlier_in c.index.result.now.place
stepped c =
    let s = c.args.self.now in
    let place = c.index.result.now.place in
    let positive : c.loop-at.at ≡ suc (c.loop-at.at - 1) = (let h = c.loop-at-test.true in omega arith) in
    let step = steps_from (end_of s.edges.now.items) c.loop-at.at (c.loop-at.at - 1) place positive c.loop-at.invariant.last in
    let e : edge_at s.edges.now.items (c.loop-at.at - 1) ≡ c.get.result.now = read_edge s.edges.now.items (c.loop-at.at - 1) _ c.get.ensures in
    let inside : c.loop-at.at - 1 < length s.edges.now.items = (let i = c.loop-at.invariant.inside in omega arith) in
    let before : c.get.result.now.earlier_in ≡ latest (end_of s.edges.now.items) (c.loop-at.at - 1) place =
    ap (λ (x : Edge). x.earlier_in) (sym e) ∙ c.requires.able.filed.earlier_in (c.loop-at.at - 1) inside ∙ ap (latest (end_of s.edges.now.items) (c.loop-at.at - 1)) step.0 in
    subst (λ t. Steps (end_of s.edges.now.items) c.loop-at.at t place) (sym before) step.1

pub loop-at-smaller : goal.loop-at-smaller
loop-at-smaller c = (stepped c).lower

pub loop-at-preserved : goal.loop-at-preserved
loop-at-preserved c = record {
  slots = c.in_ok-meet.ensures.slots ∙ c.loop-at.invariant.slots;
  search = c.in_ok-meet.ensures.search;
  grows = grows_trans _ _ _ c.loop-at.invariant.grows c.in_ok-meet.ensures.grows;
  inside = let l = (stepped c).lower in let i = c.loop-at.invariant.inside in omega arith;
  last = (stepped c).last;
  met = λ i a b e k. elim (cases_lt i c.loop-at.at) [
    | inl l ↦ let n : i + 1 ≡ c.loop-at.at = (stepped c).none i a l e in let q : c.loop-at.at - 1 ≡ i = omega arith in subst (λ j. IsMet c.args.self.now c.meet.new.visits.items j) q c.in_ok-meet.ensures.met k
    | inr l ↦ grown _ c.meet.new.visits.items _ c.in_ok-meet.ensures.grows (c.loop-at.invariant.met i l b e k)
  ];
}
