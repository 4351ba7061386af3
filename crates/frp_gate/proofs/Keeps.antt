-- Each step keeps the rule of the room.
use Rattle.std.proofs.Common.{◌≡◌, ◌≢◌, ◌⊎◌, ℕ, zero, suc, ◌+◌, ◌%◌, ◌^◌, ◌<◌, ◌≤◌, ◌==◌, if◌then◌else◌, eq-eqb, ne_eqb, List, [], ◌∷◌, ◌++◌, length, set, refl, sym, ap, ◌∙◌, subst, inl, inr, ⊎_elim, arith, Option, Some, None, Bool, true, false, true≢false, length-append, length-set}
use Rattle.std.specs.Prelude.{slice_index}
use Rattle.frp_base.proofs.Booleans.{is_false}
use mathlib.Core.Logic.{dite}
use mathlib.Core.Option.{some, none, some-injective, some-ne-none}
use native.Mathlib.Decide.{ℕ_discrete}
use lib.ListN.{get_elem?}
use Rattle.atomic_table.specs.Table.{State, step, keeps, takes, gives, Allows, Splits, Joins, opening, Final, Seen}
use Rattle.atomic_table.proofs.Lists.{at_set, set_else, at_longer}
use Rattle.frp_gate.specs.declared.entry.Entry.{Entry}
use Rattle.frp_gate.specs.declared.view.PassView.{PassView}
use Rattle.frp_gate.specs.declared.view.JoinedPass.{JoinedPass}
use Rattle.frp_gate.specs.declared.view.Start.{Start}
use Rattle.frp_gate.proofs.Totals.{total_set, total_more, total_other, total_le, next_word, same_ticket}
use Rattle.frp_gate.proofs.OwnEntries.{entries_other, called_more, called_first}
use Rattle.frp_gate.specs.Entries.{AreCalledBelow, entries_of}
use Rattle.frp_gate.specs.Rule.{AtHome, Fits, IsOut, Kept, NoneAway, PassFits, Slot}
use Rattle.frp_gate.specs.Steps.{Draws, Goes, Looks, PassesOn, Publishes, PutsBack, Reads, Takes}
use Rattle.frp_gate.specs.Views.{InBlock, IsIdle, SeatState, as_joined, members, at_turn, both_of, first_pass, fresh_view, holding, joined, less_first, one_if, only_first, parts, passed_on, published, put_down, other_passes, seeing, tickets, total, waiting}

abbrev pub put : (ℕ → ℕ) → ℕ → ℕ → ℕ → ℕ
put f k x j = if j == k then x else f j

if_true : (b : Bool) (x y : ℕ) → b ≡ true → (if b then x else y) ≡ x
if_true true x y e = refl
if_true false x y e = absurd (true≢false (sym e))

if_false : (b : Bool) (x y : ℕ) → b ≡ false → (if b then x else y) ≡ y
if_false true x y e = absurd (true≢false e)
if_false false x y e = refl

pub put_here : (f : ℕ → ℕ) (k x j : ℕ) → j ≡ k → put f k x j ≡ x
put_here f k x j e = if_true (j == k) x (f j) (eq-eqb j k e)

pub put_else : (f : ℕ → ℕ) (k x j : ℕ) → j ≢ k → put f k x j ≡ f j
put_else f k x j ne = if_false (j == k) x (f j) (ne_eqb j k ne)

-- what went to `from` goes to `to`
abbrev redirect : (ℕ → ℕ) → ℕ → ℕ → ℕ → ℕ
redirect f from to j = if f j == from then to else f j

redirect_here : (f : ℕ → ℕ) (from to j : ℕ) → f j ≡ from → redirect f from to j ≡ to
redirect_here f from to j e = if_true (f j == from) to (f j) (eq-eqb (f j) from e)

redirect_else : (f : ℕ → ℕ) (from to j : ℕ) → f j ≢ from → redirect f from to j ≡ f j
redirect_else f from to j ne = if_false (f j == from) to (f j) (ne_eqb (f j) from ne)

both_ways : (b : Bool) → b ≡ true → b ≡ false → ⊥
both_ways b t f = true≢false (sym t ∙ f)

module _ {A : Type 0} where
  set_there : (l : List A) (i : ℕ) (a b : A) → get_elem? l i ≡ some a → get_elem? (set l i b) i ≡ some b
  set_there [] i a b e = absurd (some-ne-none a (sym e))
  set_there (x ∷ xs) zero a b e = refl
  set_there (x ∷ xs) (suc i) a b e = set_there xs i a b e

  inside : (l : List A) (i : ℕ) (a : A) → get_elem? l i ≡ some a → i < length l
  inside [] i a e = absurd (some-ne-none a (sym e))
  inside (x ∷ xs) zero a e = omega arith
  inside (x ∷ xs) (suc i) a e = let t = inside xs i a e in omega arith

  pub at_end : (l : List A) (a b : A) (j : ℕ) → get_elem? (l ++ a ∷ []) j ≡ some b
      → (get_elem? l j ≡ some b) ⊎ ((j ≡ length l) × (a ≡ b))
  at_end [] a b zero e = inr (refl, some-injective a b e)
  at_end [] a b (suc j) e = absurd (some-ne-none b (sym e))
  at_end (x ∷ xs) a b zero e = inl e
  at_end (x ∷ xs) a b (suc j) e = ⊎_elim (λ t. inl t) (λ (t : (j ≡ length xs) × (a ≡ b)). inr (ap suc t.0, t.1))
      (at_end xs a b j e)

module _ {M C R F : Type 0} (history : M → List (Entry C R)) (fixed : M → F) where
  abbrev V : Type 0
  V = Option (PassView M)

  abbrev St : Type 0
  St = State M V

  abbrev Log : Type 0
  Log = List (Entry C R)

  abbrev view_or : PassView M → V → PassView M
  view_or d None = d
  view_or d (Some e) = e

  abbrev first_or : M → List (ℕ × M) → M
  first_or y [] = y
  first_or y (x ∷ xs) = x.1

  same_view : (d e : PassView M) → some (Some d) ≡ some (Some e) → d ≡ e
  same_view d e p = ap (view_or d) (some-injective (Some d) (Some e) p)

  goes : (c : List (ℕ × M)) (m' : SeatState M) (d d' : PassView M) (next : PassView M → PassView M → Type 0)
      → m'.0 ≡ Some d' → next d d' → Goes (Some d, c) m' next
  goes c m' d d' next is h e p = (d', is, subst (λ (z : PassView M). next z d') (ap (view_or d) p) h)

  views_set : (P : ℕ → V → Type 0) (vs : List V) (id : ℕ) (w : V) → P id w
      → ((j : ℕ) (v : V) → j ≢ id → get_elem? vs j ≡ some v → P j v) → (j : ℕ) (v : V)
      → get_elem? (set vs id w) j ≡ some v → P j v
  views_set P vs id w mine others j v e = ⊎_elim (λ (t : (j ≡ id) × (w ≡ v)). subst (λ (x : ℕ × V). P x.0 x.1)
      (λ i. (sym t.0 i, t.1 i)) mine)
      (λ (t : (j ≢ id) × (get_elem? vs j ≡ some v)). others j v t.0 t.1) (at_set vs id j w v e)

  fit_as : (start : M) (callers s n s' n' : ℕ) (log log' : Log) (seat seat' owner owner' : ℕ → ℕ) (j : ℕ) (v : V)
      → ((d : PassView M) → v ≡ Some d → PassFits history fixed start callers s n log seat owner j d
      → PassFits history fixed start callers s' n' log' seat' owner' j d)
      → Fits history fixed start callers s n log seat owner j v
      → Fits history fixed start callers s' n' log' seat' owner' j v
  fit_as start callers s n s' n' log log' seat seat' owner owner' j None f h = tt
  fit_as start callers s n s' n' log log' seat seat' owner owner' j (Some d) f h = f d refl h

  module _ (k : Start M) where
    abbrev Rule : St → Type 0
    Rule = Kept history fixed k

    abbrev FitsIn : (s : St) → Rule s → ℕ → V → Type 0
    FitsIn s r = Fits history fixed k.machine.value k.callers r.served r.drawn r.log r.seat r.owner

    abbrev PassIn : (s : St) → Rule s → ℕ → PassView M → Type 0
    PassIn s r = PassFits history fixed k.machine.value k.callers r.served r.drawn r.log r.seat r.owner

    -- two that are at their turn are one
    one_turn_only : (s : St) (r : Rule s) (i j : ℕ) (d e : PassView M) → PassIn s r i d → PassIn s r j e
        → d.turn ≡ true → e.turn ≡ true → j ≡ i
    one_turn_only s r i j d e a b p q =
        let x = a.turn p in
        let y = b.turn q in
        let o = (a.waits x.0).2 in
        let o' = (b.waits y.0).2 in
        sym o' ∙ ap r.owner (y.1 ∙ sym x.1) ∙ o

    -- few tickets are out
    few_out : (s : St) (r : Rule s) → r.drawn < r.served + 2 ^ 32
    few_out s r =
        let le : total tickets s.views ≤ total parts s.views = total_le tickets parts s.views fewer in
        let a = r.out in
        let b = r.all_parts in
        let c = r.few in
        omega arith
      where
        at_most : (b : Bool) (d : PassView M) → (b ≡ true → d.block ≡ 1) → one_if b ≤ d.block + length d.kept
        at_most true d h = let one = h refl in omega arith
        at_most false d h = omega arith

        fewer_here : (j : ℕ) (v : V) → FitsIn s r j v → tickets v ≤ parts v
        fewer_here j None h = omega arith
        fewer_here j (Some d) h = at_most d.waits d (λ w. (h.waits w).3)

        fewer : (j : ℕ) (v : V) → get_elem? s.views j ≡ some v → tickets v ≤ parts v
        fewer j v e = fewer_here j v (r.each j v e)

    -- where the slot stays
    keep_slot : (start : M) (log : Log) (s : St) (ws : List ℕ) (id : ℕ) (d w : PassView M)
        → get_elem? s.views id ≡ some (Some d) → w.away ≡ d.away → Slot history fixed start log s
        → Slot history fixed start log record { words = ws; homes = s.homes; views = set s.views id (Some w) }
    keep_slot start log s ws id d w at same (inl h) = inl (
      h.0,
      h.1,
      h.2,
      h.3,
      λ j u e. ⊎_elim
          (λ (t : (j ≡ id) × (Some w ≡ Some u)). sym (ap (λ z. (view_or w z).away) t.1) ∙ same ∙ h.4 id d at)
          (λ (t : (j ≢ id) × (get_elem? s.views j ≡ some (Some u))). h.4 j u t.1)
          (at_set s.views id j (Some w) (Some u) e),
    )
    keep_slot start log s ws id d w at same (inr o) = inr (
      o.0,
      dite (ℕ_discrete o.1.0 id)
          (λ here. let u = o.1.1 in let is : u ≡ d = same_view u d (sym o.1.2 ∙ ap (get_elem? s.views) here ∙ at) in
          (id, w, set_there s.views id (Some d) (Some w) at, same ∙ ap (λ (z : PassView M). z.away) (sym is) ∙ o.1.3))
          (λ apart. (o.1.0, o.1.1, set_else s.views id o.1.0 (Some w) apart ∙ o.1.2, o.1.3)),
    )

    -- a pass that another one's step leaves as it is
    abbrev Others : (s : St) → Rule s → ℕ → ℕ → ℕ → Log → (ℕ → ℕ) → (ℕ → ℕ) → Type 0
    Others s r id served drawn log seat owner = (j : ℕ) (d : PassView M) → j ≢ id
        → get_elem? s.views j ≡ some (Some d) → PassIn s r j d
        → PassFits history fixed k.machine.value k.callers served drawn log seat owner j d

    -- each pass, after a step of one
    each_after : (s : St) (r : Rule s) (id served drawn : ℕ) (log : Log) (seat owner : ℕ → ℕ) (w : PassView M)
        → PassFits history fixed k.machine.value k.callers served drawn log seat owner id w
        → Others s r id served drawn log seat owner
        → (j : ℕ) (v : V) → get_elem? (set s.views id (Some w)) j ≡ some v
        → Fits history fixed k.machine.value k.callers served drawn log seat owner j v
    each_after s r id served drawn log seat owner w mine others =
        views_set (Fits history fixed k.machine.value k.callers served drawn log seat owner) s.views id (Some w) mine
        (λ j v apart e. fit_as k.machine.value k.callers r.served r.drawn served drawn r.log log r.seat seat r.owner owner j v
        (λ d is h. others j d apart (subst (λ z. get_elem? s.views j ≡ some z) is e) h) (r.each j v e))

    pub draws : (id slots : ℕ) (d : PassView M) (c : List (ℕ × M)) → IsIdle d → d.block ≡ 1 → d.kept ≡ []
        → Allows Rule slots id (Some d, c) 0 (λ n. (n + 1) % 2 ^ 64) (Draws (step slots 0 1 0 none) (Some d, c))
    draws id slots d c idle one alone s r deep at small =
        let t = r.drawn in
        let w = waiting t d in
        let mine = r.each id (Some d) at in
        let o = r.out in
        let was : one_if d.waits ≡ 0 = ap one_if idle.0 in
        let counted = total_set tickets s.views id (Some d) (Some w) at in
        let weighed = total_set parts s.views id (Some d) (Some w) at in
        let a = r.all_parts in (
          Some w,
          keeps,
          tt,
          record {
            served = r.served;
            drawn = r.drawn + 1;
            log = r.log;
            seat = r.seat;
            owner = put r.owner t id;
            words_are = ap (λ ws. set ws 0 ((slice_index ws 0 + 1) % 2 ^ 64)) r.words_are
                ∙ ap (λ n. n ∷ r.served % 2 ^ 64 ∷ length r.log ∷ []) (next_word r.drawn);
            out = omega arith;
            all_parts = omega arith;
            few = r.few;
            each = each_after s r id r.served (r.drawn + 1) r.log r.seat (put r.owner t id) w
                record {
                  number = mine.number;
                  kept = mine.kept;
                  waits = λ _. (omega arith, omega arith, put_here r.owner t id t refl, one, alone);
                  turn = λ e. absurd (both_ways d.turn e idle.1);
                  away = λ e. absurd (both_ways d.away e idle.2);
                  seen = mine.seen;
                  first = mine.first;
                }
                (λ j u apart e h. record {
                  number = h.number;
                  kept = h.kept;
                  waits = λ x. let y = h.waits x in let less = y.1 in
                      (y.0, omega arith, put_else r.owner t id u.ticket (λ same. omega arith) ∙ y.2, y.3, y.4);
                  turn = h.turn;
                  away = h.away;
                  seen = h.seen;
                  first = h.first;
                });
            slot = keep_slot k.machine.value r.log s (set s.words 0 ((slice_index s.words 0 + 1) % 2 ^ 64)) id d w at refl r.slot;
            called = r.called;
          },
          (
            refl,
            goes c (Some w, c) d w (λ d d'. (t : ℕ) × (slice_index s.words 0 ≡ t % 2 ^ 64)
                × (d' ≡ waiting t d)) refl (t, ap (λ ws. slice_index ws 0) r.words_are, refl),
          ),
        )

    -- a step that changes this pass alone: not its tickets, its parts or what it has in hand
    stays : (s : St) (r : Rule s) (id : ℕ) (d w : PassView M) (ws : List ℕ) → get_elem? s.views id ≡ some (Some d)
        → ws ≡ s.words → w.waits ≡ d.waits → w.block ≡ d.block → w.kept ≡ d.kept → w.away ≡ d.away
        → PassIn s r id w → Rule record { words = ws; homes = s.homes; views = set s.views id (Some w) }
    stays s r id d w ws at same waits block kept away fits =
        let counted = total_set tickets s.views id (Some d) (Some w) at in
        let weighed = total_set parts s.views id (Some d) (Some w) at in
        let x : one_if w.waits ≡ one_if d.waits = ap one_if waits in
        let y : length w.kept ≡ length d.kept = ap (λ l. length l) kept in
        let o = r.out in
        let a = r.all_parts in record {
          served = r.served;
          drawn = r.drawn;
          log = r.log;
          seat = r.seat;
          owner = r.owner;
          words_are = same ∙ r.words_are;
          out = omega arith;
          all_parts = omega arith;
          few = r.few;
          each = each_after s r id r.served r.drawn r.log r.seat r.owner w fits (λ j u apart e h. h);
          slot = keep_slot k.machine.value r.log s ws id d w at away r.slot;
          called = r.called;
        }

    -- a load changes no word
    loaded : (s : St) (r : Rule s) (f : List ℕ → List ℕ)
        → f (r.drawn % 2 ^ 64 ∷ r.served % 2 ^ 64 ∷ length r.log ∷ []) ≡ r.drawn % 2 ^ 64 ∷ r.served % 2 ^ 64 ∷ length r.log ∷ [] → f s.words ≡ s.words
    loaded s r f e = ap f r.words_are ∙ e ∙ sym r.words_are

    pub looks : (id slots : ℕ) (d : PassView M) (c : List (ℕ × M)) → d.waits ≡ true
        → Allows Rule slots id (Some d, c) 1 (λ n. n) (Looks (step slots 1 0 0 none) (Some d, c))
    looks id slots d c waits s r deep at small =
        let n : ℕ = slice_index s.words 1 in
        let mine = r.each id (Some d) at in
        let is : n ≡ r.served % 2 ^ 64 = ap (λ ws. slice_index ws 1) r.words_are in
        let mw = mine.waits waits in
        let lo = mw.0 in
        let hi = mw.1 in
        let f = few_out s r in
        let still = loaded s r (λ ws. set ws 1 (slice_index ws 1)) refl in
        dite (ℕ_discrete n (d.ticket % 2 ^ 64))
        (λ hit. let same : r.served ≡ d.ticket = same_ticket r.served d.ticket lo (omega arith) (sym is ∙ hit) in
        let w = at_turn d in (
          Some w,
          keeps,
          tt,
          stays s r id d w _ at still refl refl refl refl record {
            number = mine.number;
            kept = mine.kept;
            waits = mine.waits;
            turn = λ _. (waits, sym same);
            away = λ x. (refl, (mine.away x).1);
            seen = mine.seen;
            first = mine.first;
          },
          (
            refl,
            goes c (Some w, c) d w (λ d d'. (n ≡ d.ticket % 2 ^ 64 → d' ≡ at_turn d)
                × (n ≢ d.ticket % 2 ^ 64 → d' ≡ d)) refl ((λ _. refl), (λ ne. absurd (ne hit))),
          ),
        ))
        (λ miss. (
          Some d,
          keeps,
          tt,
          stays s r id d d _ at still refl refl refl refl mine,
          (
            refl,
            goes c (Some d, c) d d (λ d d'. (n ≡ d.ticket % 2 ^ 64 → d' ≡ at_turn d)
                × (n ≢ d.ticket % 2 ^ 64 → d' ≡ d)) refl ((λ e. absurd (miss e)), (λ _. refl)),
          ),
        ))

    pub reads : (id slots : ℕ) (d : PassView M) (c : List (ℕ × M))
        → Allows Rule slots id (Some d, c) 2 (λ n. n) (Reads history (step slots 2 0 0 none) (Some d, c))
    reads id slots d c s r deep at small =
        let n : ℕ = slice_index s.words 2 in
        let mine = r.each id (Some d) at in
        let is : n ≡ length r.log = ap (λ ws. slice_index ws 2) r.words_are in
        let w = seeing n d in
        let low = mine.seen in (
          Some w,
          keeps,
          tt,
          stays s r id d w _ at (loaded s r (λ ws. set ws 2 (slice_index ws 2)) refl) refl refl refl refl record {
            number = mine.number;
            kept = mine.kept;
            waits = mine.waits;
            turn = mine.turn;
            away = mine.away;
            seen = omega arith;
            first = mine.first;
          },
          (
            refl,
            goes c (Some w, c) d w (λ d d'. (d' ≡ seeing n d) × (d.seen ≤ n)
                × (d.away ≡ true → n ≡ length (history d.known))) refl (
                  refl,
                  omega arith,
                  λ x. is
                      ∙ ap (λ l. length l) (mine.away x).1,
                ),
          ),
        )

    here_in : (d : PassView M) → d.block ≡ 1 → InBlock d d.number
    here_in d one = (omega arith, omega arith)

    -- only the one at its turn can have the machine
    other_away : (s : St) (r : Rule s) (id j : ℕ) (d e : PassView M) → PassIn s r id d → PassIn s r j e
        → d.turn ≡ true → j ≢ id → e.away ≡ false
    other_away s r id j d e a b turn apart = is_false e.away (λ x. apart (one_turn_only s r id j d e a b turn (b.away x).0))

    none_else : (s : St) (r : Rule s) (id : ℕ) (d w : PassView M) → get_elem? s.views id ≡ some (Some d)
        → d.turn ≡ true → w.away ≡ false → NoneAway (set s.views id (Some w))
    none_else s r id d w at turn off j u e = ⊎_elim (λ (t : (j ≡ id)
        × (Some w ≡ Some u)). ap (λ z. (view_or w z).away) (sym t.1) ∙ off)
        (λ (t : (j ≢ id) × (get_elem? s.views j ≡ some (Some u))). other_away s r id j d u (r.each id (Some d) at)
        (r.each j (Some u) t.1) turn t.0) (at_set s.views id j (Some w) (Some u) e)

    pub takes_it : (id slots : ℕ) (d : PassView M) (c : List (ℕ × M)) → d.turn ≡ true → d.away ≡ false
        → Allows Rule slots id (Some d, c) 1 (λ n. n) (Takes history fixed (step slots 1 0 0 none) (Some d, c))
    takes_it id slots d c turn off s r deep at small = ⊎_elim
        (λ (h : AtHome history fixed k.machine.value r.log s).
        let y = h.0 in
        let w = holding y d in
        let mine = r.each id (Some d) at in
        let counted = total_set tickets s.views id (Some d) (Some w) at in
        let weighed = total_set parts s.views id (Some d) (Some w) at in
        let o = r.out in
        let a = r.all_parts in
        let one = (mine.waits (mine.turn turn).0).3 in (
          Some w,
          takes 0 y,
          ap (λ hs. get_elem? hs 0) h.1,
          record {
            served = r.served;
            drawn = r.drawn;
            log = r.log;
            seat = r.seat;
            owner = r.owner;
            words_are = ap (λ ws. set ws 1 (slice_index ws 1)) r.words_are;
            out = omega arith;
            all_parts = omega arith;
            few = r.few;
            each = each_after s r id r.served r.drawn r.log r.seat r.owner w
                record {
                  number = λ n i. let m = mine.number n i in (m.0, m.1, ap (entries_of n) (sym h.2));
                  kept = mine.kept;
                  waits = mine.waits;
                  turn = mine.turn;
                  away = λ _. (turn, sym h.2);
                  seen = mine.seen;
                  first = mine.first;
                }
                (λ j u apart e f. f);
            slot = inr (ap (λ hs. set hs 0 none) h.1, (id, w, set_there s.views id (Some d) (Some w) at, refl));
            called = r.called;
          },
          (
            y,
            refl,
            goes c (Some w, (0, y) ∷ c) d w
                (λ d d'. (d' ≡ holding y d) × (entries_of d.number (history y) ≡ entries_of d.number (history d.known)) × (d.seen ≤ length (history y)) × (fixed y ≡ fixed d.first)) refl (
                  refl,
                  ap (entries_of d.number) h.2 ∙ (mine.number d.number (here_in d one)).2,
                  subst (λ l. d.seen ≤ length l) (sym h.2) mine.seen,
                  h.3 ∙ ap fixed (sym mine.first),
                ),
          ),
        ))
        (λ (o : IsOut s). let e = o.1.1 in let j = o.1.0 in let mine = r.each id (Some d) at in
        let its = r.each j (Some e) o.1.2 in
        let same = one_turn_only s r id j d e mine its turn (its.away o.1.3).0 in
        let is : e ≡ d = same_view e d (sym o.1.2 ∙ ap (get_elem? s.views) same ∙ at) in
        absurd (both_ways e.away o.1.3 (ap (λ (z : PassView M). z.away) is ∙ off)))
        r.slot

    pub publishes : (id slots n : ℕ) (d : PassView M) (y : M) (e : Entry C R) → d.away ≡ true
        → history y ≡ history d.known ++ e ∷ [] → e.caller ≡ d.number → n ≡ length (history y)
        → Allows Rule slots id (Some d, (0, y) ∷ []) 2 (λ _. n)
        (λ _. Publishes (step slots 2 n 0 none) (Some d, (0, y) ∷ []) n)
    publishes id slots n d y e out new by long s r deep at small =
        let mine = r.each id (Some d) at in
        let turn = (mine.away out).0 in
        let mw = mine.waits (mine.turn turn).0 in
        let w = published y n d in
        let grown : history y ≡ r.log ++ e ∷ [] = new ∙ ap (λ l. l ++ e ∷ []) (sym (mine.away out).1) in
        let more : length (history y) ≡ length r.log + 1 = ap (λ l. length l) grown ∙ length-append r.log (e ∷ []) in
        let counted = total_set tickets s.views id (Some d) (Some w) at in
        let weighed = total_set parts s.views id (Some d) (Some w) at in
        let o = r.out in
        let a = r.all_parts in
        let mn = mine.number d.number (here_in d mw.3) in
        let apart_from : (j c : ℕ) → j ≢ id → r.seat c ≡ j → entries_of c (history y) ≡ entries_of c r.log =
        λ j c apart sits. ap (entries_of c) grown
        ∙ entries_other c 0 r.log e (λ same. apart (sym sits ∙ ap r.seat (sym same ∙ by) ∙ mn.0)) in (
          Some w,
          keeps,
          tt,
          record {
            served = r.served;
            drawn = r.drawn;
            log = history y;
            seat = r.seat;
            owner = r.owner;
            words_are = ap (λ ws. set ws 2 n) r.words_are
                ∙ ap (λ x. r.drawn % 2 ^ 64 ∷ r.served % 2 ^ 64 ∷ x ∷ []) long;
            out = omega arith;
            all_parts = omega arith;
            few = r.few;
            each = each_after s r id r.served r.drawn (history y) r.seat r.owner w
                record {
                  number = λ c i. let m = mine.number c i in (m.0, m.1, refl);
                  kept = λ i t at_t. absurd (some-ne-none t (sym at_t ∙ ap (λ l. get_elem? l i) mw.4));
                  waits = mine.waits;
                  turn = mine.turn;
                  away = λ _. (turn, refl);
                  seen = omega arith;
                  first = mine.first;
                }
                (λ j u apart at_u f. record {
                  number = λ c i. let m = f.number c i in (m.0, m.1, apart_from j c apart m.0 ∙ m.2);
                  kept = λ i t at_t. let m = f.kept i t at_t in let low = m.2 in
                      (m.0, apart_from j t.number apart m.0 ∙ m.1, omega arith);
                  waits = f.waits;
                  turn = f.turn;
                  away = λ x. absurd (both_ways u.away x (other_away s r id j d u mine f turn apart));
                  seen = let low = f.seen in omega arith;
                  first = f.first;
                });
            slot = ⊎_elim (λ (h : AtHome history fixed k.machine.value r.log s). absurd (both_ways d.away out (h.4 id d at)))
                (λ (h : IsOut s). inr (h.0, (id, w, set_there s.views id (Some d) (Some w) at, out))) r.slot;
            called = subst (AreCalledBelow k.callers (length (history k.machine.value))) (sym grown)
                (called_more k.callers (length (history k.machine.value)) r.log e (let low = mn.1 in
                omega arith) r.called);
          },
          (
            refl,
            goes ((0, y) ∷ []) (Some w, (0, y) ∷ []) d w (λ d d'. (z : M) → (0, y) ∷ [] ≡ (0, z) ∷ []
                → d' ≡ published z n d) refl (λ z e. ap (λ q. published (first_or y q) n d) e),
          ),
        )

    pub puts_back : (id slots : ℕ) (d : PassView M) (y : M) → d.away ≡ true → history y ≡ history d.known
        → fixed y ≡ fixed d.first
        → Allows Rule slots id (Some d, (0, y) ∷ []) 1 (λ n. n) (PutsBack (step slots 1 0 0 none) (Some d, (0, y) ∷ []))
    puts_back id slots d y out same part s r deep at small =
        let mine = r.each id (Some d) at in
        let turn = (mine.away out).0 in
        let w = put_down d in
        let counted = total_set tickets s.views id (Some d) (Some w) at in
        let weighed = total_set parts s.views id (Some d) (Some w) at in
        let o = r.out in
        let a = r.all_parts in (
          Some w,
          gives,
          tt,
          record {
            served = r.served;
            drawn = r.drawn;
            log = r.log;
            seat = r.seat;
            owner = r.owner;
            words_are = ap (λ ws. set ws 1 (slice_index ws 1)) r.words_are;
            out = omega arith;
            all_parts = omega arith;
            few = r.few;
            each = each_after s r id r.served r.drawn r.log r.seat r.owner w
                record {
                  number = mine.number;
                  kept = mine.kept;
                  waits = mine.waits;
                  turn = mine.turn;
                  away = λ x. absurd (true≢false (sym x));
                  seen = mine.seen;
                  first = mine.first;
                }
                (λ j u apart e f. f);
            slot = ⊎_elim (λ (h : AtHome history fixed k.machine.value r.log s). absurd (both_ways d.away out (h.4 id d at)))
                (λ (h : IsOut s). inl (
                  y,
                  ap (λ hs. set hs 0 (some y)) h.0,
                  same ∙ sym (mine.away out).1,
                  part
                      ∙ ap fixed mine.first,
                  none_else s r id d w at turn refl,
                )) r.slot;
            called = r.called;
          },
          (refl, goes ((0, y) ∷ []) (Some w, []) d w (λ d d'. d' ≡ put_down d) refl refl),
        )

    pub passes_on : (id slots n : ℕ) (d : PassView M) (c : List (ℕ × M)) → d.turn ≡ true → d.away ≡ false
        → n ≡ (d.ticket + 1) % 2 ^ 64
        → Allows Rule slots id (Some d, c) 1 (λ _. n) (λ _. PassesOn (step slots 1 n 0 none) (Some d, c) n)
    passes_on id slots n d c turn off next s r deep at small =
        let mine = r.each id (Some d) at in
        let mt = mine.turn turn in
        let mw = mine.waits mt.0 in
        let w = passed_on d in
        let was : one_if d.waits ≡ 1 = ap one_if mt.0 in
        let counted = total_set tickets s.views id (Some d) (Some w) at in
        let weighed = total_set parts s.views id (Some d) (Some w) at in
        let o = r.out in
        let a = r.all_parts in (
          Some w,
          keeps,
          tt,
          record {
            served = r.served + 1;
            drawn = r.drawn;
            log = r.log;
            seat = r.seat;
            owner = r.owner;
            words_are = ap (λ ws. set ws 1 n) r.words_are
                ∙ ap (λ x. r.drawn % 2 ^ 64 ∷ x ∷ length r.log ∷ []) (next ∙ ap (λ t. (t + 1) % 2 ^ 64) mt.1);
            out = omega arith;
            all_parts = omega arith;
            few = r.few;
            each = each_after s r id (r.served + 1) r.drawn r.log r.seat r.owner w
                record {
                  number = mine.number;
                  kept = mine.kept;
                  waits = λ x. absurd (true≢false (sym x));
                  turn = λ x. absurd (true≢false (sym x));
                  away = λ x. absurd (both_ways d.away x off);
                  seen = mine.seen;
                  first = mine.first;
                }
                (λ j u apart e f. record {
                  number = f.number;
                  kept = f.kept;
                  waits = λ x. let y = f.waits x in let low = y.0 in
                      let ne : u.ticket ≢ r.served = λ same. apart (sym y.2 ∙ ap r.owner (same ∙ sym mt.1) ∙ mw.2) in
                      (omega arith, y.1, y.2, y.3, y.4);
                  turn = λ x. absurd (apart (one_turn_only s r id j d u mine f turn x));
                  away = λ x. absurd (apart (one_turn_only s r id j d u mine f turn (f.away x).0));
                  seen = f.seen;
                  first = f.first;
                });
            slot = keep_slot k.machine.value r.log s (set s.words 1 n) id d w at refl r.slot;
            called = r.called;
          },
          (refl, goes c (Some w, c) d w (λ d d'. d' ≡ passed_on d) refl refl),
        )

    pub splits : (id : ℕ) (d : PassView M) → IsIdle d → 1 ≤ d.block → d.kept ≡ []
        → Splits Rule id (Some d) (other_passes (Some d)) (first_pass (Some d))
    splits id d idle some_left alone s r at =
        let mine = r.each id (Some d) at in
        let w = less_first d in
        let x = only_first d in
        let new = length s.views in
        let seat' = put r.seat d.number new in
        let there : length (set s.views id (Some w)) ≡ new = length-set s.views id (Some w) in
        let was : one_if d.waits ≡ 0 = ap one_if idle.0 in
        let none_kept : length d.kept ≡ 0 = ap (λ l. length l) alone in
        let counted = total_set tickets s.views id (Some d) (Some w) at in
        let weighed = total_set parts s.views id (Some d) (Some w) at in
        let counted' = total_more tickets (set s.views id (Some w)) (Some x) in
        let weighed' = total_more parts (set s.views id (Some w)) (Some x) in
        let o = r.out in
        let a = r.all_parts in
        let mn = mine.number d.number (omega arith, omega arith) in
        let stays_at : (c j : ℕ) → j ≢ id → r.seat c ≡ j
        → seat' c ≡ j = λ c j apart sits. put_else r.seat d.number new c (λ same. apart (sym sits ∙ ap r.seat same
        ∙ mn.0)) ∙ sits in
        let no_turn = both_ways d.turn in
        let fits_new : PassFits history fixed k.machine.value k.callers r.served r.drawn r.log seat' r.owner new x = record {
          number = λ c i. let lo = i.0 in let hi = i.1 in let is : c ≡ d.number = omega arith in (
            put_here r.seat d.number new c is,
            subst (λ z. z < k.callers) (sym is) mn.1,
            subst (λ z. entries_of z r.log ≡ entries_of z (history d.known)) (sym is) mn.2,
          );
          kept = λ i t at_t. absurd (some-ne-none t (sym at_t));
          waits = λ e. absurd (both_ways d.waits e idle.0);
          turn = λ e. absurd (both_ways d.turn e idle.1);
          away = λ e. absurd (both_ways d.away e idle.2);
          seen = mine.seen;
          first = mine.first;
        } in
        let fits_set = each_after s r id r.served r.drawn r.log seat' r.owner w
        record {
          number = λ c i. let lo = i.0 in let hi = i.1 in let m = mine.number c (omega arith, omega arith) in
              (put_else r.seat d.number new c (λ e. omega arith) ∙ m.0, m.1, m.2);
          kept = λ i t at_t. absurd (some-ne-none t (sym at_t ∙ ap (λ l. get_elem? l i) alone));
          waits = λ e. absurd (both_ways d.waits e idle.0);
          turn = λ e. absurd (both_ways d.turn e idle.1);
          away = λ e. absurd (both_ways d.away e idle.2);
          seen = mine.seen;
          first = mine.first;
        }
        (λ j u apart e f. record {
          number = λ c i. let m = f.number c i in (stays_at c j apart m.0, m.1, m.2);
          kept = λ i t at_t. let m = f.kept i t at_t in (stays_at t.number j apart m.0, m.1, m.2);
          waits = f.waits;
          turn = f.turn;
          away = f.away;
          seen = f.seen;
          first = f.first;
        }) in
        record {
          served = r.served;
          drawn = r.drawn;
          log = r.log;
          seat = seat';
          owner = r.owner;
          words_are = r.words_are;
          out = omega arith;
          all_parts = omega arith;
          few = r.few;
          each = λ j v e. ⊎_elim (λ (t : get_elem? (set s.views id (Some w)) j ≡ some v). fits_set j v t)
              (λ (t : (j ≡ length (set s.views id (Some w))) × (Some x ≡ v)).
              subst (λ (z : ℕ × V). Fits history fixed k.machine.value k.callers r.served r.drawn r.log seat' r.owner z.0 z.1) (λ i. (sym (t.0 ∙ there) i, t.1 i)) fits_new)
              (at_end (set s.views id (Some w)) (Some x) v j e);
          slot = more_views s r.log (set s.views id (Some w)) x idle.2 (keep_slot k.machine.value r.log s s.words id d w at refl r.slot);
          called = r.called;
        }
      where
        more_views : (s : St) (log : Log) (vs : List V) (x : PassView M) → x.away ≡ false
            → Slot history fixed k.machine.value log record { words = s.words; homes = s.homes; views = vs }
            → Slot history fixed k.machine.value log record { words = s.words; homes = s.homes; views = vs ++ Some x ∷ [] }
        more_views s log vs x off (inl h) = inl (
          h.0,
          h.1,
          h.2,
          h.3,
          λ j u e. ⊎_elim (λ (t : get_elem? vs j ≡ some (Some u)). h.4 j u t)
              (λ (t : (j ≡ length vs) × (Some x ≡ Some u)). ap (λ z. (view_or x z).away) (sym t.1) ∙ off)
              (at_end vs (Some x) (Some u) j e),
        )
        more_views s log vs x off (inr o) = inr (
          o.0,
          (o.1.0, o.1.1, at_longer vs (Some x ∷ []) o.1.0 (Some o.1.1) o.1.2, o.1.3),
        )

    pub joins : (id other : ℕ) (d e : PassView M) → IsIdle d → IsIdle e → e.block ≡ 1 → e.kept ≡ []
        → Joins Rule id (Some d) other (Some e) (both_of (Some d) (Some e)) None
    joins id other d e idle idle' one alone s r at apart there =
        let w = joined d e in
        let vs = set s.views id (Some w) in
        let at_e : get_elem? s.views other ≡ some (Some e) = sym (set_else s.views id other (Some w) apart) ∙ there in
        let mine = r.each id (Some d) at in
        let its = r.each other (Some e) at_e in
        let seat' = redirect r.seat other id in
        let was : one_if d.waits ≡ 0 = ap one_if idle.0 in
        let was' : one_if e.waits ≡ 0 = ap one_if idle'.0 in
        let none_kept : length e.kept ≡ 0 = ap (λ l. length l) alone in
        let longer = length-append d.kept (as_joined e ∷ []) in
        let counted = total_set tickets s.views id (Some d) (Some w) at in
        let weighed = total_set parts s.views id (Some d) (Some w) at in
        let counted' = total_set tickets vs other (Some e) None there in
        let weighed' = total_set parts vs other (Some e) None there in
        let o = r.out in
        let a = r.all_parts in
        let en = its.number e.number (here_in e one) in
        let sits_still : (c j : ℕ) → j ≢ other → r.seat c ≡ j
        → seat' c ≡ j = λ c j ne sits. redirect_else r.seat other id c (λ z. ne (sym sits ∙ z)) ∙ sits in
        let id_apart : id ≢ other = λ z. apart (sym z) in
        let fits_w : PassFits history fixed k.machine.value k.callers r.served r.drawn r.log seat' r.owner id w = record {
          number = λ c i. let m = mine.number c i in (sits_still c id id_apart m.0, m.1, m.2);
          kept = λ i t at_t. ⊎_elim (λ (q : get_elem? d.kept i ≡ some t). let m = mine.kept i t q in
              (sits_still t.number id id_apart m.0, m.1, m.2))
              (λ (q : (i ≡ length d.kept) × (as_joined e ≡ t)). subst (λ (z : JoinedPass M). (seat' z.number ≡ id)
              × (entries_of z.number r.log ≡ entries_of z.number (history z.known)) × (z.seen ≤ length r.log)) q.1
              (redirect_here r.seat other id e.number en.0, en.2, its.seen)) (at_end d.kept (as_joined e) t i at_t);
          waits = λ x. absurd (both_ways d.waits x idle.0);
          turn = λ x. absurd (both_ways d.turn x idle.1);
          away = λ x. absurd (both_ways d.away x idle.2);
          seen = mine.seen;
          first = mine.first;
        } in
        record {
          served = r.served;
          drawn = r.drawn;
          log = r.log;
          seat = seat';
          owner = r.owner;
          words_are = r.words_are;
          out = omega arith;
          all_parts = omega arith;
          few = r.few;
          each = views_set (Fits history fixed k.machine.value k.callers r.served r.drawn r.log seat' r.owner) vs other None tt
              (λ j v ne at_j. views_set (λ j v. j ≢ other
              → Fits history fixed k.machine.value k.callers r.served r.drawn r.log seat' r.owner j v) s.views id (Some w) (λ _. fits_w)
              (λ j v ne' at_v not_other. fit_as k.machine.value k.callers r.served r.drawn r.served r.drawn r.log r.log r.seat seat' r.owner r.owner j v (λ u is f. record {
                number = λ c i. let m = f.number c i in (sits_still c j not_other m.0, m.1, m.2);
                kept = λ i t at_t. let m = f.kept i t at_t in (sits_still t.number j not_other m.0, m.1, m.2);
                waits = f.waits;
                turn = f.turn;
                away = f.away;
                seen = f.seen;
                first = f.first;
              }) (r.each j v at_v)) j v at_j ne);
          slot = spent_one s r.log vs other e there idle'.2 (keep_slot k.machine.value r.log s s.words id d w at refl r.slot);
          called = r.called;
        }
      where
        spent_one : (s : St) (log : Log) (vs : List V) (other : ℕ) (e : PassView M)
            → get_elem? vs other ≡ some (Some e) → e.away ≡ false
            → Slot history fixed k.machine.value log record { words = s.words; homes = s.homes; views = vs }
            → Slot history fixed k.machine.value log record { words = s.words; homes = s.homes; views = set vs other None }
        spent_one s log vs other e at off (inl h) = inl (
          h.0,
          h.1,
          h.2,
          h.3,
          λ j u p. ⊎_elim (λ (t : (j ≡ other) × (None ≡ Some u)). absurd (cc))
              (λ (t : (j ≢ other) × (get_elem? vs j ≡ some (Some u))). h.4 j u t.1) (at_set vs other j None (Some u) p),
        )
        spent_one s log vs other e at off (inr o) = inr (
          o.0,
          (
            o.1.0,
            o.1.1,
            set_else vs other o.1.0 None (λ same.
                let is : o.1.1 ≡ e = same_view o.1.1 e (sym o.1.2 ∙ ap (get_elem? vs) same ∙ at) in
                both_ways o.1.1.away o.1.3 (ap (λ (z : PassView M). z.away) is ∙ off)) ∙ o.1.2,
            o.1.3,
          ),
        )

    -- a room at its start
    pub opens : (n : ℕ) → n ≡ length (history k.machine.value) → k.callers < 2 ^ 32
        → Rule (opening (0 ∷ 0 ∷ n ∷ []) (k.machine.value ∷ []) (Some (fresh_view 0 k.callers k.machine.value n)))
    opens n long few = record {
      served = 0;
      drawn = 0;
      log = history k.machine.value;
      seat = λ _. 0;
      owner = λ _. 0;
      words_are = ap (λ x. 0 ∷ 0 ∷ x ∷ []) long;
      out = refl;
      all_parts = omega arith;
      few = few;
      each = λ j v e. only j v e;
      slot = inl (k.machine.value, refl, refl, refl, λ j u e. off j u e);
      called = called_first k.callers (history k.machine.value);
    }
      where
        fits : PassFits history fixed k.machine.value k.callers 0 0 (history k.machine.value) (λ _. 0)
            (λ _. 0) 0 (fresh_view 0 k.callers k.machine.value n)
        fits = record {
          number = λ c i. (refl, let t = i.1 in omega arith, refl);
          kept = λ i t at_t. absurd (some-ne-none t (sym at_t));
          waits = λ x. absurd (true≢false (sym x));
          turn = λ x. absurd (true≢false (sym x));
          away = λ x. absurd (true≢false (sym x));
          seen = omega arith;
          first = refl;
        }

        only : (j : ℕ) (v : V) → get_elem? (Some (fresh_view 0 k.callers k.machine.value n) ∷ []) j ≡ some v
            → Fits history fixed k.machine.value k.callers 0 0 (history k.machine.value) (λ _. 0) (λ _. 0) j v
        only zero v e = subst (Fits history fixed k.machine.value k.callers 0 0 (history k.machine.value) (λ _. 0)
            (λ _. 0) 0) (some-injective _ _ e) fits
        only (suc j) v e = absurd (some-ne-none v (sym e))

        off : (j : ℕ) (u : PassView M)
            → get_elem? (Some (fresh_view 0 k.callers k.machine.value n) ∷ []) j ≡ some (Some u) → u.away ≡ false
        off zero u e = ap (λ (z : PassView M). z.away) (sym (same_view (fresh_view 0 k.callers k.machine.value n) u e))
        off (suc j) u e = absurd (some-ne-none (Some u) (sym e))

    -- once all passes are joined, the machine is at home, and has what each of them knew
    pub closes : (id : ℕ) (d : PassView M) (ws : List ℕ) (xs : List M) → IsIdle d → d.block ≡ 1
        → length (members d) ≡ k.callers → Final (Seen Rule id (Some d)) ws xs
        → (y : M) × (get_elem? xs 0 ≡ some y) × (fixed y ≡ fixed k.machine.value)
        × AreCalledBelow k.callers (length (history k.machine.value)) (history y)
        × ((i : ℕ) (t : JoinedPass M) → get_elem? (members d) i ≡ some t
        → (entries_of t.number (history y) ≡ entries_of t.number (history t.known))
        × (t.seen ≤ length (history y)))
    closes id d ws xs idle one all f =
        let s = f.0 in
        let r = f.1.0 in
        let at = f.1.1 in
        let mine = r.each id (Some d) at in
        ⊎_elim
        (λ (h : AtHome history fixed k.machine.value r.log s). (
          h.0,
          f.4 0 h.0 (ap (λ hs. get_elem? hs 0) h.1),
          h.3,
          subst (AreCalledBelow k.callers (length (history k.machine.value))) (sym h.2) r.called,
          tells h.0 (ap (entries_of d.number) h.2 ∙ (mine.number d.number (here_in d one)).2)
              (subst (λ l. d.seen ≤ length l) (sym h.2) mine.seen)
              (λ i t at_t. let m = mine.kept i t at_t in
              (ap (entries_of t.number) h.2 ∙ m.1, subst (λ l. t.seen ≤ length l) (sym h.2) m.2)),
        ))
        (λ (o : IsOut s). let e = o.1.1 in let j = o.1.0 in let its = r.each j (Some e) o.1.2 in
        let alone = (its.waits (its.turn (its.away o.1.3).0).0).3 in
        let a = r.all_parts in
        let apart : j ≢ id = λ same. both_ways e.away o.1.3 (ap (λ (z : PassView M). z.away)
        (same_view e d (sym o.1.2 ∙ ap (get_elem? s.views) same ∙ at)) ∙ idle.2) in
        let both = total_other parts s.views id j (Some d) (Some e) apart at o.1.2 in
        absurd (omega arith))
        r.slot
      where
        tells : (y : M) → entries_of d.number (history y) ≡ entries_of d.number (history d.known)
            → d.seen ≤ length (history y)
            → ((i : ℕ) (t : JoinedPass M) → get_elem? d.kept i ≡ some t
            → (entries_of t.number (history y) ≡ entries_of t.number (history t.known))
            × (t.seen ≤ length (history y)))
            → (i : ℕ) (t : JoinedPass M) → get_elem? (members d) i ≡ some t
            → (entries_of t.number (history y) ≡ entries_of t.number (history t.known))
            × (t.seen ≤ length (history y))
        tells y own seen kept zero t e = subst (λ (z : JoinedPass M). (entries_of z.number (history y) ≡ entries_of z.number (history z.known)) × (z.seen ≤ length (history y)))
            (some-injective (as_joined d) t e) (own, seen)
        tells y own seen kept (suc i) t e = kept i t e
