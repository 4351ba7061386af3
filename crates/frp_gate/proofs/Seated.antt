-- The steps, at a seat whose view is known, and what each leaves.
use Rattle.std.proofs.Common.{◌≡◌, ◌≢◌, ℕ, ◌+◌, ◌%◌, ◌^◌, ◌≤◌, List, [], ◌∷◌, ◌++◌, length, sym, ap, ◌∙◌, subst, Some, true, false}
use mathlib.Core.Option.{none}
use Rattle.atomic_table.specs.Table.{step, Allows, Splits}
use Rattle.frp_gate.specs.declared.entry.Entry.{Entry}
use Rattle.frp_gate.specs.declared.view.PassView.{PassView}
use Rattle.frp_gate.specs.declared.view.Start.{Start}
use Rattle.frp_gate.proofs.Keeps.{draws, looks, splits, reads, takes_it, publishes, puts_back, passes_on}
use Rattle.frp_gate.specs.Entries.{entries_of}
use Rattle.frp_gate.specs.Rule.{Kept}
use Rattle.frp_gate.specs.Steps.{Draws, Goes, Looks, PassesOn, Publishes, PutsBack, Reads, Takes}
use Rattle.frp_gate.specs.Views.{IsIdle, SeatState, at_turn, first_pass, holding, passed_on, published, put_down, other_passes, seeing, waiting}

module _ {M C R F : Type 0} (history : M → List (Entry C R)) (fixed : M → F) where
  -- what a step that goes from d leaves
  pub left_by : (m m' : SeatState M) (d : PassView M) (c c' : List (ℕ × M)) (next : PassView M → PassView M → Type 0)
      → m ≡ (Some d, c) → m'.1 ≡ c' → Goes m m' next → (d' : PassView M) × (m' ≡ (Some d', c')) × next d d'
  left_by m m' d c c' next is hands go = let t = go d (ap (λ x. x.0) is) in (t.0, (λ i. (t.1 i, hands i)), t.2)

  pub after_draw : (m m' : SeatState M) (n : ℕ) (d : PassView M) (c : List (ℕ × M)) → m ≡ (Some d, c)
      → Draws (step 0 0 0 0 none) m n m' → (t : ℕ) × (n ≡ t % 2 ^ 64) × (m' ≡ (Some (waiting t d), c))
  after_draw m m' n d c is h = let t = left_by m m' d c c _ is (h.0 ∙ ap (λ x. x.1) is) h.1 in
      (t.2.0, t.2.1, t.1 ∙ ap (λ x. (Some x, c)) t.2.2)

  pub after_look : (m m' : SeatState M) (n : ℕ) (d : PassView M) (c : List (ℕ × M)) → m ≡ (Some d, c)
      → Looks (step 0 0 0 0 none) m n m'
      → (n ≡ d.ticket % 2 ^ 64 → m' ≡ (Some (at_turn d), c)) × (n ≢ d.ticket % 2 ^ 64 → m' ≡ (Some d, c))
  after_look m m' n d c is h = let t = left_by m m' d c c _ is (h.0 ∙ ap (λ x. x.1) is) h.1 in
      ((λ e. t.1 ∙ ap (λ x. (Some x, c)) (t.2.0 e)), (λ e. t.1 ∙ ap (λ x. (Some x, c)) (t.2.1 e)))

  pub after_take : (m m' : SeatState M) (n : ℕ) (d : PassView M) → m ≡ (Some d, [])
      → Takes history fixed (step 0 0 0 0 none) m n m'
      → (y : M) × (m' ≡ (Some (holding y d), (0, y) ∷ []))
      × (entries_of d.number (history y) ≡ entries_of d.number (history d.known)) × (d.seen ≤ length (history y))
      × (fixed y ≡ fixed d.first)
  after_take m m' n d is h = let t = left_by m m' d [] ((0, h.0) ∷ []) _ is (h.1 ∙ ap (λ x. (0, h.0) ∷ x.1) is) h.2 in
      (h.0, t.1 ∙ ap (λ x. (Some x, (0, h.0) ∷ [])) t.2.0, t.2.1, t.2.2, t.2.3)

  pub after_publish : (m m' : SeatState M) (n : ℕ) (d : PassView M) (y : M) → m ≡ (Some d, (0, y) ∷ [])
      → Publishes (step 0 0 0 0 none) m n m' → m' ≡ (Some (published y n d), (0, y) ∷ [])
  after_publish m m' n d y is h = let t = left_by m m' d ((0, y) ∷ [])
      ((0, y) ∷ []) _ is (h.0 ∙ ap (λ x. x.1) is) h.1 in
      t.1 ∙ ap (λ x. (Some x, (0, y) ∷ [])) (t.2 y (ap (λ x. x.1) is))

  pub after_put_back : (m m' : SeatState M) (d : PassView M) (c : List (ℕ × M)) → m ≡ (Some d, c)
      → PutsBack (step 0 0 0 0 none) m 0 m' → m' ≡ (Some (put_down d), [])
  after_put_back m m' d c is h = let t = left_by m m' d c [] _ is h.0 h.1 in t.1 ∙ ap (λ x. (Some x, [])) t.2

  pub after_pass_on : (m m' : SeatState M) (d : PassView M) (c : List (ℕ × M)) → m ≡ (Some d, c)
      → PassesOn (step 0 0 0 0 none) m 0 m' → m' ≡ (Some (passed_on d), c)
  after_pass_on m m' d c is h = let t = left_by m m' d c c _ is (h.0 ∙ ap (λ x. x.1) is) h.1 in
      t.1 ∙ ap (λ x. (Some x, c)) t.2

  pub after_read : (m m' : SeatState M) (n : ℕ) (d : PassView M) (c : List (ℕ × M)) → m ≡ (Some d, c)
      → Reads history (step 0 0 0 0 none) m n m'
      → (m' ≡ (Some (seeing n d), c)) × (d.seen ≤ n) × (d.away ≡ true → n ≡ length (history d.known))
  after_read m m' n d c is h = let t = left_by m m' d c c _ is (h.0 ∙ ap (λ x. x.1) is) h.1 in
      (t.1 ∙ ap (λ x. (Some x, c)) t.2.0, t.2.1, t.2.2)

  module _ (k : Start M) (id slots : ℕ) (m : SeatState M) (d : PassView M) where
    pub draws_as : (c : List (ℕ × M)) → m ≡ (Some d, c) → IsIdle d → d.block ≡ 1 → d.kept ≡ []
        → Allows (Kept history fixed k) slots id m 0 (λ n. (n + 1) % 2 ^ 64) (Draws (step slots 0 1 0 none) m)
    draws_as c is idle one alone = subst (λ x. Allows (Kept history fixed k) slots id x 0 (λ n. (n + 1) % 2 ^ 64)
        (Draws (step slots 0 1 0 none) x)) (sym is) (draws history fixed k id slots d c idle one alone)

    pub looks_as : (c : List (ℕ × M)) → m ≡ (Some d, c) → d.waits ≡ true
        → Allows (Kept history fixed k) slots id m 1 (λ n. n) (Looks (step slots 1 0 0 none) m)
    looks_as c is waits = subst (λ x. Allows (Kept history fixed k) slots id x 1 (λ n. n)
        (Looks (step slots 1 0 0 none) x)) (sym is) (looks history fixed k id slots d c waits)

    pub reads_as : (c : List (ℕ × M)) → m ≡ (Some d, c)
        → Allows (Kept history fixed k) slots id m 2 (λ n. n) (Reads history (step slots 2 0 0 none) m)
    reads_as c is = subst (λ x. Allows (Kept history fixed k) slots id x 2 (λ n. n)
        (Reads history (step slots 2 0 0 none) x)) (sym is) (reads history fixed k id slots d c)

    pub takes_as : (c : List (ℕ × M)) → m ≡ (Some d, c) → d.turn ≡ true → d.away ≡ false
        → Allows (Kept history fixed k) slots id m 1 (λ n. n) (Takes history fixed (step slots 1 0 0 none) m)
    takes_as c is turn off = subst (λ x. Allows (Kept history fixed k) slots id x 1 (λ n. n)
        (Takes history fixed (step slots 1 0 0 none) x)) (sym is) (takes_it history fixed k id slots d c turn off)

    pub publishes_as : (n : ℕ) (y : M) (e : Entry C R) → m ≡ (Some d, (0, y) ∷ []) → d.away ≡ true
        → history y ≡ history d.known ++ e ∷ [] → e.caller ≡ d.number → n ≡ length (history y)
        → Allows (Kept history fixed k) slots id m 2 (λ _. n) (λ _. Publishes (step slots 2 n 0 none) m n)
    publishes_as n y e is out new by long = subst (λ x. Allows (Kept history fixed k) slots id x 2 (λ _. n)
        (λ _. Publishes (step slots 2 n 0 none) x n)) (sym is)
        (publishes history fixed k id slots n d y e out new by long)

    pub puts_back_as : (y : M) → m ≡ (Some d, (0, y) ∷ []) → d.away ≡ true → history y ≡ history d.known
        → fixed y ≡ fixed d.first → Allows (Kept history fixed k) slots id m 1 (λ n. n)
        (PutsBack (step slots 1 0 0 none) m)
    puts_back_as y is out same part = subst (λ x. Allows (Kept history fixed k) slots id x 1 (λ n. n)
        (PutsBack (step slots 1 0 0 none) x)) (sym is) (puts_back history fixed k id slots d y out same part)

    pub passes_on_as : (n : ℕ) (c : List (ℕ × M)) → m ≡ (Some d, c) → d.turn ≡ true → d.away ≡ false
        → n ≡ (d.ticket + 1) % 2 ^ 64
        → Allows (Kept history fixed k) slots id m 1 (λ _. n) (λ _. PassesOn (step slots 1 n 0 none) m n)
    passes_on_as n c is turn off next = subst (λ x. Allows (Kept history fixed k) slots id x 1 (λ _. n)
        (λ _. PassesOn (step slots 1 n 0 none) x n)) (sym is) (passes_on history fixed k id slots n d c turn off next)

module _ {M C R F : Type 0} (history : M → List (Entry C R)) (fixed : M → F) where
  pub splits_as : (k : Start M) (id : ℕ) (m : SeatState M) (d : PassView M) → m ≡ (Some d, []) → IsIdle d
      → 1 ≤ d.block → d.kept ≡ [] → Splits (Kept history fixed k) id m.0 (other_passes m.0) (first_pass m.0)
  splits_as k id m d is idle some_left alone = subst (λ (x : SeatState M). Splits (Kept history fixed k) id x.0 (other_passes x.0) (first_pass x.0)) (sym is) (splits history fixed k id d idle some_left alone)
