-- A trace whose times are those of a history is one of the program.
use Rattle.std.proofs.Common.{◌≡◌, ℕ, ◌+◌, Bool, true, false, cond, List, [], ◌∷◌, map, Option, Some, None, refl, sym, ap, ◌∙◌, subst, arith}
use Rattle.std.specs.Prelude.{is_some, filter, nat_lt, ◌||◌, if◌then◌else◌}
use Rattle.std.specs.List.{AllByRecursion, list_any}
use Rattle.std.specs.List.Sorted.{IsStrictlySortedBy}
use Rattle.std.proofs.lemmas.Bool.Decides.{nat_tests}
use Rattle.frp_base.specs.declared.time.Time.{Time}
use Rattle.frp_base.specs.Time.{time_eq, time_cmp, parent_and_number}
use Rattle.frp_graph.specs.declared.trace.Node.{Node}
use Rattle.frp_graph.specs.declared.trace.Moment.{Moment}
use Rattle.frp_graph.specs.declared.prog.Prog.{Prog}
use Rattle.frp_history.specs.declared.history.Entry.{Entry}
use Rattle.frp_graph.specs.declared.trace.Sent.{Sent}
use Rattle.frp_graph.specs.Trace.{live, moment_at}
use Rattle.frp_graph.specs.Births.{build}
use Rattle.frp_graph.specs.Moments.{items_to_split, splits_at, live_at, is_child_due, is_due, IsMoment, IsTrace, AtEach}
use Rattle.frp_history.specs.History.{sends_of}
use Rattle.frp_base.proofs.Lists.{all_follow, all_both, all_front, all_back}
use Rattle.frp_core.specs.Small.{AreSmallFrom}
use Rattle.frp_core.specs.Core.{times_of, IsSingle}
use Rattle.frp_core.proofs.Times.{at_place, times_rise}
use Rattle.frp_core.proofs.SmallShapes.{no_items}

-- Due times.

moment_is : (t : Time) (ms : List Moment) → is_some (moment_at ms t) ≡ list_any (λ u. time_eq u t) (map (λ m. m.time) ms)
moment_is t [] = refl
moment_is t (m ∷ ms) = by_test (time_eq m.time t) (moment_is t ms) where
  by_test : (b : Bool) → is_some (moment_at ms t) ≡ list_any (λ u. time_eq u t) (map (λ m. m.time) ms)
      → is_some (if b then Some m else moment_at ms t) ≡ (b || list_any (λ u. time_eq u t) (map (λ m. m.time) ms))
  by_test true e = refl
  by_test false e = e

any_mapped : {A B : Type 0} (p : B → Bool) (f : A → B) (xs : List A) → list_any p (map f xs) ≡ list_any (λ x. p (f x)) xs
any_mapped p f [] = refl
any_mapped p f (x ∷ xs) = ap (λ b. p (f x) || b) (any_mapped p f xs)

any_none : {A : Type 0} (p : A → Bool) (xs : List A) → AllByRecursion (λ x. p x ≡ false) xs → list_any p xs ≡ false
any_none p [] h = refl
any_none p (x ∷ xs) h = rw h.0 (any_none p xs h.1)

abbrev SplitsNothing : Node → Type 0
SplitsNothing x = (m : Moment) (i : ℕ) → nat_lt i (items_to_split m x.shape) ≡ false

none_split : (k : ℕ) (xs : List Node) → AreSmallFrom k xs → AllByRecursion SplitsNothing xs
none_split k [] s = tt
none_split k (x ∷ xs) s = ((λ m i. ap (nat_lt i) (no_items m x.shape s.1.0) ∙ (let e : nat_lt i 0 ≡ false = grind (arith, nat_tests) in e)), none_split (k + 1) xs s.2)

live_some : (P : Node → Type 0) (p : Moment → Bool) (ms : List Moment) → AllByRecursion P (live ms) → AllByRecursion P (live (filter p ms))
live_some P p [] h = tt
live_some P p (m ∷ ms) h = by_test (p m) (all_front P m.born (live ms) h) (live_some P p ms (all_back P m.born (live ms) h)) where
  by_test : (b : Bool) → AllByRecursion P m.born → AllByRecursion P (live (filter p ms)) → AllByRecursion P (live (cond b (m ∷ filter p ms) (filter p ms)))
  by_test true h k = all_both P m.born (live (filter p ms)) h k
  by_test false h k = k

module _ (trace : List Moment) (small : AreSmallFrom 0 (live trace)) where
  no_splits : (u : Time) (i : ℕ) (m : Option Moment) → splits_at trace u i m ≡ false
  no_splits u i None = refl
  no_splits u i (Some m) = any_none (λ x. nat_lt i (items_to_split m x.shape)) (live_at trace u)
      (all_follow SplitsNothing (λ x. nat_lt i (items_to_split m x.shape) ≡ false) (λ x h. h m i) (live_at trace u) (live_some SplitsNothing _ trace (none_split 0 (live trace) small)))

  no_child : (p : Option (Time × ℕ)) → is_child_due trace p ≡ false
  no_child None = refl
  no_child (Some p) = no_splits p.0 p.1 (moment_at trace p.0)

  or_false : (a b : Bool) → b ≡ false → (a || b) ≡ a
  or_false true b e = refl
  or_false false b e = e

  due_times : (sends : List Sent) → map (λ m. m.time) trace ≡ build ∷ map at_place sends → (t : Time) → is_some (moment_at trace t) ≡ is_due sends trace t
  due_times sends e t =
      moment_is t trace ∙ ap (list_any (λ u. time_eq u t)) e
      ∙ ap (λ b. time_eq build t || b) (any_mapped (λ u. time_eq u t) at_place sends)
      ∙ sym (or_false _ _ (no_child (parent_and_number t)))

  -- a trace with the times of a history, whose moments are the program's
  pub is_trace : (prog : Prog) (entries : List Entry) → AllByRecursion (λ e. IsSingle e.cmd) entries → map (λ m. m.time) trace ≡ times_of entries → AtEach (IsMoment prog (sends_of entries)) [] trace → IsTrace prog (sends_of entries) trace
  is_trace prog entries single e a = record {
    rising = subst (IsStrictlySortedBy time_cmp) (sym e) (times_rise entries single);
    due = due_times (sends_of entries) e;
    moments = a;
  }
