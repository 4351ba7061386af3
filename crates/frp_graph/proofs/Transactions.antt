-- The moments of a transaction.
use Rattle.std.proofs.Common.{◌≡◌, ℕ, ◌≤◌, zero, suc, Bool, true, false, cond, List, [], ◌∷◌, ◌++◌, map, length, Option, Some, None, refl, sym, ap, ◌∙◌, subst, arith, append_assoc}
use Rattle.std.proofs.Common.{inl, inr}
use Rattle.std.specs.Prelude.{◌&&◌, ◌||◌, ◌==◌, is_some, filter, if◌then◌else◌}
use Rattle.std.specs.List.{AllByRecursion, list_any}
use Rattle.std.specs.List.Sorted.{IsStrictlySortedBy}
use Rattle.std.specs.declared.cmp.Ordering.TheVariants.{Less}
use Rattle.frp_base.specs.declared.time.Time.{Time}
use Rattle.frp_base.specs.Time.{time_eq, time_cmp, parent_and_number}
use Rattle.frp_graph.specs.declared.trace.Moment.{Moment}
use Rattle.frp_graph.specs.Trace.{moment_at}
use Rattle.frp_graph.specs.declared.trace.Sent.{Sent}
use Rattle.frp_graph.specs.Births.{build}
use Rattle.frp_graph.specs.Moments.{splits_at, is_child_due, is_due, is_of_transaction, transaction, moments_of}
use Rattle.frp_graph.proofs.Times.{child_of}
use Rattle.std.proofs.lemmas.Bool.Decides.{nat_tests}
use Rattle.frp_graph.proofs.Lists.{time_same, time_eq-same}
use Rattle.frp_base.proofs.Booleans.{or_true, either_true}

-- Filtered traces.

all_some : {A : Type 0} (P : A → Type 0) (f : Moment → A) (q : Moment → Bool) (ms : List Moment) → AllByRecursion P (map f ms) → AllByRecursion P (map f (filter q ms))
all_some P f q [] h = tt
all_some P f q (m ∷ ms) h = by (q m) h.0 (all_some P f q ms h.1) where
  by : (b : Bool) → P (f m) → AllByRecursion P (map f (filter q ms)) → AllByRecursion P (map f (cond b (m ∷ filter q ms) (filter q ms)))
  by true p r = (p, r)
  by false p r = r

pub some_rise : (q : Moment → Bool) (ms : List Moment) → IsStrictlySortedBy time_cmp (map (λ m. m.time) ms) → IsStrictlySortedBy time_cmp (map (λ m. m.time) (filter q ms))
unfolding IsStrictlySortedBy
some_rise q [] h = tt
some_rise q (m ∷ ms) h = by (q m) (all_some (λ u. time_cmp m.time u ≡ Less) (λ k. k.time) q ms h.0) (some_rise q ms h.1) where
  by : (b : Bool) → AllByRecursion (λ u. time_cmp m.time u ≡ Less) (map (λ k. k.time) (filter q ms)) → IsStrictlySortedBy time_cmp (map (λ k. k.time) (filter q ms))
      → IsStrictlySortedBy time_cmp (map (λ k. k.time) (cond b (m ∷ filter q ms) (filter q ms)))
  by true p r = (p, r)
  by false p r = r

-- of the moments at whose times a test holds, that at a time
pub moment_of_some : (p : Time → Bool) (ms : List Moment) (t : Time) → moment_at (filter (λ m. p m.time) ms) t ≡ (if p t then moment_at ms t else None)
moment_of_some p [] t = by (p t) where
  by : (b : Bool) → ◌≡◌ {A = Option Moment} None (if b then None else None)
  by true = refl
  by false = refl
moment_of_some p (m ∷ ms) t = by (p m.time) (time_eq m.time t) refl refl (moment_of_some p ms t) where
  by : (b e : Bool) → p m.time ≡ b → time_eq m.time t ≡ e → moment_at (filter (λ m. p m.time) ms) t ≡ (if p t then moment_at ms t else None)
      → moment_at (cond b (m ∷ filter (λ m. p m.time) ms) (filter (λ m. p m.time) ms)) t ≡ (if p t then (if e then Some m else moment_at ms t) else None)
  by true true hb he r = let f : p t ≡ true = subst (λ u. p u ≡ true) (time_same m.time t he) hb in rw (he, f) refl
  by true false hb he r = rw he r
  by false true hb he r = let f : p t ≡ false = subst (λ u. p u ≡ false) (time_same m.time t he) hb in rw f (rw f at r)
  by false false hb he r = r

some_test : (b : Bool) (o : Option Moment) → is_some (if b then o else None) ≡ (is_some o && b)
some_test true None = refl
some_test true (Some m) = refl
some_test false None = refl
some_test false (Some m) = refl

pub transaction_is : (sends : List Sent) (trace : List Moment) → ((t : Time) → is_some (moment_at trace t) ≡ is_due sends trace t) → (k : ℕ) (t : Time)
    → is_some (moment_at (transaction k trace) t) ≡ (is_due sends trace t && is_of_transaction k t)
transaction_is sends trace h k t = ap is_some (moment_of_some (is_of_transaction k) trace t) ∙ some_test (is_of_transaction k t) (moment_at trace t) ∙ ap (λ b. b && is_of_transaction k t) (h t)

-- A place without a send has no moments.

module _ (sends : List Sent) (trace : List Moment) (due : (t : Time) → is_some (moment_at trace t) ≡ is_due sends trace t) (k : ℕ) (later : k ≡ 0 → ⊥)
    (unsent : list_any (λ s. s.place == k) sends ≡ false) where
  -- a time of one number that is due is the build's or a send's
  no_build : (t : Time) → is_of_transaction k t ≡ true → time_eq build t ≡ true → ⊥
  no_build t h e = let o : is_of_transaction k build ≡ true = subst (λ u. is_of_transaction k u ≡ true) (sym (time_same build t e)) h in later (grind (arith, nat_tests))

  no_send : (t : Time) → is_of_transaction k t ≡ true → (ss : List Sent) → list_any (λ s. time_eq (s.place ∷ []) t) ss ≡ true → list_any (λ s. s.place == k) ss ≡ true
  no_send t h [] e = e
  no_send t h (s ∷ ss) e = elim (either_true (time_eq (s.place ∷ []) t) (list_any (λ s. time_eq (s.place ∷ []) t) ss) e) [
    | inl z ↦ let o : is_of_transaction k (s.place ∷ []) ≡ true = subst (λ u. is_of_transaction k u ≡ true) (sym (time_same (s.place ∷ []) t z)) h in rw o refl
    | inr r ↦ let o = no_send t h ss r in rw o (or_true (s.place == k))
  ]

  splits_there : (u : Time) (i : ℕ) (o : Option Moment) → splits_at trace u i o ≡ true → is_some o ≡ true
  splits_there u i None h = h
  splits_there u i (Some m) h = refl

  abbrev None_at : ℕ → Type 0
  None_at n = (u : Time) → length u ≤ n → is_of_transaction k u ≡ true → is_some (moment_at trace u) ≡ true → ⊥

  no_child : (n : ℕ) → None_at n → (t : Time) (p : Option (Time × ℕ)) → length t ≤ suc n → parent_and_number t ≡ p → is_of_transaction k t ≡ true → is_child_due trace p ≡ true → ⊥
  no_child n none t None l e h c = absurd cc
  no_child n none t (Some p) l e h c =
      let s = child_of k t p.0 p.1 e in
      none p.0 (omega arith) (sym s.0 ∙ h) (splits_there p.0 p.1 (moment_at trace p.0) c)

  none_next : (n : ℕ) → None_at n → None_at (suc n)
  none_next n none t l h m =
      elim (either_true (time_eq build t || list_any (λ s. time_eq (s.place ∷ []) t) sends) (is_child_due trace (parent_and_number t)) (sym (due t) ∙ m)) [
        | inl e ↦ elim (either_true (time_eq build t) (list_any (λ s. time_eq (s.place ∷ []) t) sends) e) [
          | inl z ↦ no_build t h z
          | inr z ↦ let o = no_send t h sends z in absurd cc
        ]
        | inr r ↦ no_child n none t (parent_and_number t) l refl h r
      ]

  none_at : (n : ℕ) → None_at n
  none_at zero [] l h m = absurd cc
  none_at zero (i ∷ t) l h m = absurd (omega arith)
  none_at (suc n) t l h m = none_next n (none_at n) t l h m

  found_last : (ks ms : List Moment) (m : Moment) → is_some (moment_at (ks ++ m ∷ ms) m.time) ≡ true
  found_last [] ms m = rw (time_eq-same m.time) refl
  found_last (l ∷ ks) ms m = by (time_eq l.time m.time) (found_last ks ms m) where
    by : (b : Bool) → is_some (moment_at (ks ++ m ∷ ms) m.time) ≡ true → is_some (if b then Some l else moment_at (ks ++ m ∷ ms) m.time) ≡ true
    by true h = refl
    by false h = h

  none_from : (ks ms : List Moment) → ks ++ ms ≡ trace → moments_of k ms ≡ 0
  none_from ks [] e = refl
  none_from ks (m ∷ ms) e = by (is_of_transaction k m.time) refl (none_from (ks ++ m ∷ []) ms (append_assoc ks (m ∷ []) ms ∙ e)) where
    by : (b : Bool) → is_of_transaction k m.time ≡ b → moments_of k ms ≡ 0 → length (cond b (m ∷ filter (λ m. is_of_transaction k m.time) ms) (filter (λ m. is_of_transaction k m.time) ms)) ≡ 0
    by true h r = absurd (none_at (length m.time) m.time (omega arith) h (subst (λ ts. is_some (moment_at ts m.time) ≡ true) e (found_last ks ms m)))
    by false h r = r

  pub none_unsent : moments_of k trace ≡ 0
  none_unsent = none_from [] trace refl
