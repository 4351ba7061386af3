-- the entries of a caller stand at their places
use Rattle.std.proofs.Common.{◌≡◌, ℕ, suc, ◌+◌, ◌-◌, ◌<◌, ◌≤◌, ◌==◌, if◌then◌else◌, eqb-true, List, [], ◌∷◌, length, refl, sym, ap, ◌∙◌, arith, Bool, true, false}
use Rattle.std.specs.Prelude.{All, slice_index_or}
use Rattle.std.proofs.lemmas.List.Elements.{All-nil, All-cons, All-weaker}
use Rattle.frp_gate.specs.declared.entry.Entry.{Entry}
use Rattle.frp_gate.specs.Entries.{entries_from, entries_of}
use Rattle.frp_gate.specs.Laws.{StandsIn, OwnEntriesStand}

module _ {C R : Type 0} where
  later : (c k : ℕ) (x : Entry C R) (xs : List (Entry C R)) (p : ℕ × Entry C R) → StandsIn c (suc k) xs p → StandsIn c k (x ∷ xs) p
  later c k x xs p h =
      let low = h.0 in
      let high = h.1 in
      let index : p.0 - k - 1 ≡ suc (p.0 - suc k - 1) = omega arith in
      (omega arith, omega arith, ap (λ (i : ℕ). slice_index_or (x ∷ xs) i p.1) index ∙ h.2, h.3)

  first : (b : Bool) (c k : ℕ) (x : Entry C R) (xs : List (Entry C R)) → (b ≡ true → x.caller ≡ c)
      → All (StandsIn c k (x ∷ xs)) (entries_from c (suc k) xs)
      → All (StandsIn c k (x ∷ xs)) (if b then (suc k, x) ∷ entries_from c (suc k) xs else entries_from c (suc k) xs)
  first false c k x xs own rest = rest
  first true c k x xs own rest =
      let index : suc k - k - 1 ≡ 0 = omega arith in
      All-cons (StandsIn c k (x ∷ xs)) (suc k, x) _
      (omega arith, omega arith, ap (λ (i : ℕ). slice_index_or (x ∷ xs) i x) index, own refl) rest

  stand : (c k : ℕ) (es : List (Entry C R)) → All (StandsIn c k es) (entries_from c k es)
  stand c k [] = All-nil (StandsIn c k [])
  stand c k (x ∷ xs) = first (x.caller == c) c k x xs (eqb-true x.caller c)
      (All-weaker (StandsIn c (suc k) xs) (StandsIn c k (x ∷ xs)) (later c k x xs) (entries_from c (suc k) xs) (stand c (suc k) xs))

pub own_entries_stand : (C R : Type 0) → OwnEntriesStand C R
own_entries_stand C R c es = stand c 0 es
