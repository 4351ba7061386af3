-- the passes of a room are joined again, and the machine comes out
use Rattle.std.proofs.Common.{◌≡◌, ℕ, suc, ◌≤◌, List, [], ◌∷◌, ◌++◌, length, refl, sym, ap, ◌∙◌, subst, arith, Some, None, append_assoc, length-append}
use Rattle.std.proofs.lemmas.List.Elements.{All-nil, All-cons, All-weaker}
use mathlib.Core.Option.{some, some-injective}
use lib.ListN.{get_elem?}
use Rattle.atomic_table.specs.Table.{Joins, Final, Seen}
use Rattle.atomic_table.proofs.Lists.{at_longer, at_last}
use Rattle.frp_gate.specs.declared.entry.Entry.{Entry}
use Rattle.frp_gate.specs.declared.pass.Pass.{Pass}
use Rattle.frp_gate.specs.declared.view.PassView.{PassView}
use Rattle.frp_gate.specs.declared.view.Start.{Start}
use Rattle.frp_gate.specs.Entries.{entries_of}
use Rattle.frp_gate.specs.Views.{SeatState, IsIdle, as_joined, joined, members, both_of}
use Rattle.frp_gate.specs.Rule.{Kept}
use Rattle.frp_gate.specs.Calls.{IsResting, Rests, seen_of, mine_of}
use Rattle.frp_gate.specs.Seats.{IsMember, Gathers, AreJoined, HandsOut}
use Rattle.frp_gate.proofs.Keeps.{joins, closes}
use Rattle.frp_gate.proofs.Turns.{rested}

module _ {M : Type 0} where
  member_still : (d e : PassView M) (pass : Pass M) → IsMember d pass → IsMember (joined d e) pass
  member_still d e pass h = (
    h.0,
    h.1,
    h.2,
    (h.3.0, at_longer (members d) (as_joined e ∷ []) h.3.0 (as_joined h.0) h.3.1),
  )

  member_new : (d e : PassView M) (pass : Pass M) → pass.seat.me ≡ (Some e, []) → e.number ≡ pass.number
      → IsMember (joined d e) pass
  member_new d e pass is number = (
    e,
    is,
    number,
    (length (members d), at_last (members d) (as_joined e) (length (members d)) refl),
  )

  pub gather_first : (passes left : List (Pass M)) (last : Pass M) → passes ≡ left ++ last ∷ []
      → IsResting last.number last.seat.me → Gathers passes left last.seat.me
  gather_first passes left last items rests =
      let r = rested _ _ rests in (
        r.0,
        last ∷ [],
        items,
        (r.1, r.2.0, r.2.1, ap (λ l. suc (length l)) r.2.2),
        All-cons (IsMember r.0) last [] (r.0, r.1, r.2.3, (0, refl)) (All-nil (IsMember r.0)),
      )

  pub gather_next : (passes left rest : List (Pass M)) (next : Pass M) (m m' : SeatState M) → Gathers passes left m
      → left ≡ rest ++ next ∷ [] → IsResting next.number next.seat.me
      → m' ≡ (both_of m.0 next.seat.me.0, m.1) → Gathers passes rest m'
  gather_next passes left rest next m m' h items rests is =
      let d = h.0 in
      let done = h.1 in
      let r = rested _ _ rests in
      let e = r.0 in
      let long = length-append d.kept (as_joined e ∷ []) in
      let was = h.3.3 in (
        joined d e,
        next ∷ done,
        h.2 ∙ ap (λ l. l ++ done) items ∙ append_assoc rest (next ∷ []) done,
        (is ∙ (λ i. (both_of (h.3.0 i).0 (r.1 i).0, (h.3.0 i).1)), h.3.1, h.3.2, omega arith),
        All-cons (IsMember (joined d e)) next done (member_new d e next r.1 r.2.3)
            (All-weaker (IsMember d) (IsMember (joined d e)) (member_still d e) done h.4),
      )

  pub gather_last : (passes left : List (Pass M)) (m : SeatState M) → Gathers passes left m → left ≡ []
      → AreJoined passes m
  gather_last passes left m h none =
      subst (λ l. AreJoined l m) (sym (h.2 ∙ ap (λ l. l ++ h.1) none)) (h.0, h.3, h.4)

module _ {M C R F : Type 0} (history : M → List (Entry C R)) (fixed : M → F) where
  pub joins_as : (k : Start M) (id other n : ℕ) (m m' : SeatState M) (d : PassView M) (r : Rests n m')
      → m ≡ (Some d, []) → IsIdle d
      → Joins (Kept history fixed k) id m.0 other m'.0 (both_of m.0 m'.0) None
  joins_as k id other n m m' d r is idle =
      subst (λ (x : SeatState M). Joins (Kept history fixed k) id x.0 other m'.0 (both_of x.0 m'.0) None) (sym is)
      (subst (λ (y : SeatState M). Joins (Kept history fixed k) id (Some d) other y.0 (both_of (Some d) y.0) None)
      (sym r.1)
      (joins history fixed k id other d r.0 idle r.2.0 r.2.1 r.2.2))

  pub hands_out : (start : Start M) (id : ℕ) (m : SeatState M) (ws : List ℕ) (xs : List M) (passes : List (Pass M))
      (machine : M)
      → AreJoined passes m → length passes ≡ start.callers → Final (Seen (Kept history fixed start) id m.0) ws xs
      → get_elem? xs 0 ≡ some machine
      → HandsOut history fixed start passes machine
  hands_out start id m ws xs passes machine h count final at =
      let d = h.0 in
      let c = closes history fixed start id d ws xs h.1.1 h.1.2 (h.1.3 ∙ count)
      (subst (λ (x : SeatState M). Final (Seen (Kept history fixed start) id x.0) ws xs) h.1.0 final) in
      subst (HandsOut history fixed start passes) (some-injective c.0 machine (sym c.1 ∙ at)) record {
        part = c.2;
        called = c.3;
        mine = All-weaker (IsMember d)
            (λ (pass : Pass M). entries_of pass.number (history c.0) ≡ mine_of history pass.seat.me.0)
            (λ pass t. ap (λ n. entries_of n (history c.0)) (sym t.2) ∙ (c.4 t.3.0 (as_joined t.0) t.3.1).0
            ∙ sym (ap (λ (x : SeatState M). mine_of history x.0) t.1)) passes h.2;
        seen = All-weaker (IsMember d) (λ (pass : Pass M). seen_of pass.seat.me.0 ≤ length (history c.0))
            (λ pass t. subst (λ (x : SeatState M). seen_of x.0 ≤ length (history c.0)) (sym t.1)
            (c.4 t.3.0 (as_joined t.0) t.3.1).1) passes h.2;
      }
