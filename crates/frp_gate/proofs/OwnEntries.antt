-- The entries of one caller.
use Rattle.std.proofs.Common.{◌≡◌, ◌≢◌, ℕ, zero, suc, ◌+◌, ◌<◌, ◌==◌, if◌then◌else◌, ne_eqb, eq-eqb, List, [], ◌∷◌, ◌++◌, length, refl, sym, ap, ◌∙◌, arith, Bool, true, false, subst}
use Rattle.std.specs.Prelude.{All}
use Rattle.std.proofs.lemmas.List.{drop_all}
use Rattle.std.proofs.lemmas.List.Elements.{All-nil, All-push, All-drop}
use Rattle.frp_gate.specs.declared.entry.Entry.{Entry}
use Rattle.frp_gate.specs.Entries.{AreCalledBelow, entries_from}

module _ {C R : Type 0} where
  skipped : (b : Bool) (c k : ℕ) (e : Entry C R) (es : List (Entry C R)) → b ≡ false
      → (if b then (suc k, e) ∷ entries_from c (suc k) es else entries_from c (suc k) es) ≡ entries_from c (suc k) es
  skipped true c k e es is = absurd (cc)
  skipped false c k e es is = refl

  -- another's entry changes nothing
  pub entries_other : (c k : ℕ) (es : List (Entry C R)) (e : Entry C R) → e.caller ≢ c
      → entries_from c k (es ++ e ∷ []) ≡ entries_from c k es
  entries_other c k [] e other = skipped (e.caller == c) c k e [] (ne_eqb e.caller c other)
  entries_other c k (x ∷ xs) e other = ap (λ t. if x.caller == c then (suc k, x) ∷ t else t)
      (entries_other c (suc k) xs e other)

  listed : (b : Bool) (c k : ℕ) (e : Entry C R) (es : List (Entry C R)) → b ≡ true
      → (if b then (suc k, e) ∷ entries_from c (suc k) es else entries_from c (suc k) es) ≡ (
        suc k,
        e,
      ) ∷ entries_from c (suc k) es
  listed true c k e es is = refl
  listed false c k e es is = absurd (cc)

  into : (b : Bool) (p : ℕ × Entry C R) (t l : List (ℕ × Entry C R))
      → (if b then p ∷ (t ++ l) else (t ++ l)) ≡ (if b then p ∷ t else t) ++ l
  into true p t l = refl
  into false p t l = refl

  -- one's own is added, with its place
  pub entries_more : (c k : ℕ) (es : List (Entry C R)) (e : Entry C R) → e.caller ≡ c
      → entries_from c k (es ++ e ∷ []) ≡ entries_from c k es ++ (suc (k + length es), e) ∷ []
  entries_more c k [] e mine = listed (e.caller == c) c k e [] (eq-eqb e.caller c mine)
      ∙ ap (λ (n : ℕ). (suc n, e) ∷ []) (omega arith)
  entries_more c k (x ∷ xs) e mine =
      ap (λ t. if x.caller == c then (suc k, x) ∷ t else t) (entries_more c (suc k) xs e mine)
      ∙ into (x.caller == c) (suc k, x) (entries_from c (suc k) xs) ((suc (suc k + length xs), e) ∷ [])
      ∙ ap (λ (n : ℕ). entries_from c k (x ∷ xs) ++ (suc n, e) ∷ []) (omega arith)

  pub called_more : (callers before : ℕ) (es : List (Entry C R)) (e : Entry C R) → e.caller < callers
      → AreCalledBelow callers before es → AreCalledBelow callers before (es ++ e ∷ [])
  called_more callers zero es e less h = All-push (λ (x : Entry C R). x.caller < callers) es e h less
  called_more callers (suc n) [] e less h = All-drop (λ (x : Entry C R). x.caller < callers) n [] (All-nil (λ (x : Entry C R). x.caller < callers))
  called_more callers (suc n) (x ∷ xs) e less h = called_more callers n xs e less h

  -- the history that a room begins with has no further entry
  pub called_first : (callers : ℕ) (es : List (Entry C R)) → AreCalledBelow callers (length es) es
  called_first callers es = subst (All (λ (x : Entry C R). x.caller < callers))
      (sym (drop_all (length es) es (omega arith))) (All-nil (λ (x : Entry C R). x.caller < callers))
