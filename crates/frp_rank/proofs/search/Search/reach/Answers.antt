use Rattle.std.proofs.Common.{◌≡◌, ◌<◌, ◌≤◌, ◌-◌, ℕ, length, set, ap, sym, ◌∙◌, subst, inl, inr, arith}
use Rattle.std.proofs.lemmas.Bool.{cases_lt, cases_eq}
use Rattle.frp_rank.specs.declared.visit.Visit.{Visit}
use Rattle.frp_rank.specs.Search.{visit_at, AreMet, IsMet, IsSearch}
use Rattle.frp_rank.proofs.Visiting.{search_first, few_visits, grown, visit_of}
use Rattle.frp_rank.proofs.search.Search.reach.Goals as goal

pub loop-done-init : goal.loop-done-init
loop-done-init c = record {
  slots = c.in_ok-note.ensures.length;
  search =
      let s : c.note.new.slots.items ≡ set c.args.slots.now.items c.args.self.now.from 0 = (let e = rw c.new-visits.ensures.items at c.in_ok-note.ensures.slots in e) in
      let v = rw c.new-visits.ensures.items at c.in_ok-note.ensures.visits in
      rw (s, v) (search_first c.args.self.now c.args.slots.now.items c.requires.slots c.requires.able.start);
  done = omega arith;
  met = λ j h. absurd (omega arith);
}

pub loop-done-smaller : goal.loop-done-smaller
loop-done-smaller c =
    let few = few_visits c.args.self.now c.loop-done.slots.items c.loop-done.visits.items c.loop-done.invariant.search in
    let h = c.loop-done-test.true in
    omega (arith, c.len.ensures)

pub loop-done-preserved : goal.loop-done-preserved
loop-done-preserved c =
    let old = c.loop-done.visits.items in
    let new = c.meet_all.new.visits.items in
    let grows = c.in_ok-meet_all.ensures.grows in
    record {
      slots = c.in_ok-meet_all.ensures.slots ∙ c.loop-done.invariant.slots;
      search = c.in_ok-meet_all.ensures.search;
      done = let l = grows.longer in omega (arith, c.len.ensures);
      met = λ j h i a b k.
          elim (cases_eq j c.loop-done.done) [
            | inl e ↦ c.in_ok-meet_all.ensures.met i a (b ∙ ap (λ (v : Visit). v.place) (grows.same j (omega (arith, c.len.ensures)) ∙ ap (visit_at old) e)) k
            | inr e ↦ grown old new _ grows (c.loop-done.invariant.met j (omega arith) i a (b ∙ ap (λ (v : Visit). v.place) (grows.same j (omega (arith, c.len.ensures)))) k)
          ];
    }

pub returns-clause-met : goal.returns-clause-met
returns-clause-met c = λ p h.
    let r : (j : ℕ) × (j < length c.loop-done.visits.items) × ((visit_at c.loop-done.visits.items j).place ≡ p) = visit_of c.loop-done.visits.items p h in
    subst (λ q. AreMet c.args.self.now c.loop-done.visits.items q) r.2 (c.loop-done.invariant.met r.0 (let l = r.1 in omega (arith, c.len.ensures)))
