-- Whole calls, and what the pass shows after one.
use Rattle.std.proofs.Common.{◌≡◌, ℕ, ◌+◌, ◌<◌, ◌≤◌, List, [], ◌∷◌, ◌++◌, length, refl, sym, ap, ◌∙◌, subst, Option, Some, None, suc, arith, length-append}
use Rattle.std.specs.Prelude.{Result, Ok, Err, IfOk, IfErr, IsSomeAnd}
use Rattle.frp_gate.specs.declared.entry.Entry.{Entry}
use Rattle.frp_gate.specs.declared.view.PassView.{PassView}
use Rattle.frp_gate.proofs.OwnEntries.{entries_more}
use Rattle.frp_gate.specs.Calls.{Began, Enlists, IsAlone, IsResting, Rests, Same, Stops, mine_of, seen_of}
use Rattle.frp_gate.specs.Entries.{entries_of}
use Rattle.frp_gate.specs.Views.{IsIdle, SeatState, at_turn, holding, passed_on, published, put_down, seeing, waiting}

abbrev view_or : {M : Type 0} → PassView M → Option (PassView M) → PassView M
view_or d None = d
view_or d (Some e) = e

pub if_ok : {A B : Type 0} (P : A → Type 0) (o : Result A B) (a : A) → o ≡ Ok a → IfOk o P → P a
if_ok P o a is h = subst (λ x. IfOk x P) is h

pub if_err : {A B : Type 0} (P : B → Type 0) (o : Result A B) (b : B) → o ≡ Err b → IfErr o P → P b
if_err P o b is h = subst (λ x. IfErr x P) is h

pub rested : {M : Type 0} (n : ℕ) (m : SeatState M) → IsResting n m → Rests n m
rested {M} n m h = out m.0 m.1 h.0 h.1
  where
    out : (v : Option (PassView M)) (c : List (ℕ × M)) → c ≡ [] → IsSomeAnd v (IsAlone n) → Rests n (v, c)
    out None c e h = absurd h
    out (Some d) c e h = (d, ap (λ x. (Some d, x)) e, h)

pub resting : {M : Type 0} (n : ℕ) (m : SeatState M) (d : PassView M) → m ≡ (Some d, []) → IsAlone n d → IsResting n m
resting n m d is alone = subst (IsResting n) (sym is) (refl, alone)

module _ {M C R F : Type 0} (history : M → List (Entry C R)) (fixed : M → F) where
  -- a whole call, entered
  pub whole : (d : PassView M) (t n : ℕ) (y z : M) (e : Entry C R) → IsIdle d → e.caller ≡ d.number
      → entries_of d.number (history y) ≡ entries_of d.number (history d.known) → d.seen ≤ length (history y)
      → history z ≡ history y ++ e ∷ [] → n ≡ length (history z)
      → Enlists history e n (Some d, [])
      (Some (passed_on (put_down (published z n (holding y (at_turn (waiting t d)))))), [])
  whole d t n y z e idle by own_y low new long d0 is =
      let same : d ≡ d0 = ap (λ (m : SeatState M). view_or d m.0) is in
      let more : length (history z) ≡ length (history y) + 1 = ap (λ l. length l) new
      ∙ length-append (history y) (e ∷ []) in
      let place : suc (0 + length (history y)) ≡ n = omega arith in
      let grown : entries_of d.number (history z) ≡ entries_of d.number (history d.known) ++ (n, e) ∷ [] =
      ap (entries_of d.number) new ∙ entries_more d.number 0 (history y) e by
      ∙ (λ i. own_y i ++ (place i, e) ∷ []) in
      let d' = passed_on (put_down (published z n (holding y (at_turn (waiting t d))))) in
      subst (λ (x : PassView M). (d'' : PassView M) × (◌≡◌ {A = SeatState M} (Some d', []) (Some d'', []))
      × Same x d'' × (d''.seen ≡ n) × (x.seen < n)
      × (entries_of x.number (history d''.known) ≡ entries_of x.number (history x.known) ++ (n, e) ∷ [])) same
      (d', refl, ((refl, refl, refl), refl, refl, refl, refl), refl, omega arith, grown)

  -- a whole call that the machine stopped
  pub nothing : (d : PassView M) (t n : ℕ) (y : M) (may : F → ℕ → Type 0) → IsIdle d
      → entries_of d.number (history y) ≡ entries_of d.number (history d.known) → fixed y ≡ fixed d.first → d.seen ≤ n
      → may (fixed y) n
      → Stops history fixed may n (Some d, [])
      (Some (passed_on (put_down (seeing n (holding y (at_turn (waiting t d)))))), [])
  nothing d t n y may idle own_y part low allowed d0 is =
      let same : d ≡ d0 = ap (λ (m : SeatState M). view_or d m.0) is in
      let d' = passed_on (put_down (seeing n (holding y (at_turn (waiting t d))))) in
      subst (λ (x : PassView M). (d'' : PassView M) × (◌≡◌ {A = SeatState M} (Some d', []) (Some d'', []))
      × Same x d'' × (d''.seen ≡ n) × (x.seen ≤ n)
      × (entries_of x.number (history d''.known) ≡ entries_of x.number (history x.known))
      × may (fixed x.first) n) same
      (d', refl, ((refl, refl, refl), refl, refl, refl, refl), refl, low, own_y, subst (λ f. may f n) part allowed)

module _ {M : Type 0} where
  -- the pass is left as it was after another call: at rest, with its number
  pub rests_again : (n : ℕ) (m m' : SeatState M) (r : Rests n m) (d : PassView M) → m' ≡ (Some d, []) → Same r.0 d
      → IsResting n m'
  rests_again n m m' r d is same = resting n m' d is (same.0, same.1 ∙ r.2.1, same.2 ∙ r.2.2, same.3 ∙ r.2.3)

  -- and of the same room
  pub began_still : (start : M) (n : ℕ) (m m' : SeatState M) (r : Rests n m) (d : PassView M) → m' ≡ (Some d, [])
      → Same r.0 d → Began start m → Began start m'
  began_still start n m m' r d is same began = subst (Began start) (sym is) (same.4 ∙ subst (Began start) r.1 began)

module _ {M C R F : Type 0} (history : M → List (Entry C R)) (fixed : M → F) where
  -- what the pass shows after a call that was entered
  pub shows_entered : (m m' : SeatState M) (d : PassView M) (e : Entry C R) (n : ℕ) → m ≡ (Some d, [])
      → Enlists history e n m m'
      → (seen_of m.0 < n) × (seen_of m'.0 ≡ n) × (mine_of history m'.0 ≡ mine_of history m.0 ++ (n, e) ∷ [])
  shows_entered m m' d e n is h = let u = h d is in
      subst (λ (x : SeatState M). (seen_of x.0 < n) × (seen_of m'.0 ≡ n)
      × (mine_of history m'.0 ≡ mine_of history x.0 ++ (n, e) ∷ [])) (sym is)
      (subst (λ (z : SeatState M). (d.seen < n) × (seen_of z.0 ≡ n)
      × (mine_of history z.0 ≡ entries_of d.number (history d.known) ++ (n, e) ∷ [])) (sym u.1)
      (u.4, u.3, ap (λ k. entries_of k (history u.0.known)) u.2.3 ∙ u.5))

  -- and after one that was not
  pub shows_stopped : (m m' : SeatState M) (d : PassView M) (may : F → ℕ → Type 0) (n : ℕ) (start : M)
      → m ≡ (Some d, []) → Began start m → Stops history fixed may n m m'
      → (seen_of m.0 ≤ seen_of m'.0) × (mine_of history m'.0 ≡ mine_of history m.0) × may (fixed start) (seen_of m'.0)
  shows_stopped m m' d may n start is began h = let u = h d is in let low = u.4 in let seen = u.3 in
      let of_start : fixed d.first ≡ fixed start = ap fixed (subst (Began start) is began) in
      subst (λ (x : SeatState M). (seen_of x.0 ≤ seen_of m'.0) × (mine_of history m'.0 ≡ mine_of history x.0)
      × may (fixed start) (seen_of m'.0)) (sym is)
      (subst (λ (z : SeatState M). (d.seen ≤ seen_of z.0)
      × (mine_of history z.0 ≡ entries_of d.number (history d.known)) × may (fixed start) (seen_of z.0)) (sym u.1) (
        omega arith,
        ap (λ k. entries_of k (history u.0.known)) u.2.3 ∙ u.5,
        subst (λ (x : F × ℕ). may x.0 x.1) (λ i. (of_start i, sym seen i)) u.6,
      ))
