-- The moments before a place.
use Rattle.std.proofs.Common.{◌≡◌, ℕ, ◌<◌, ◌≤◌, Bool, true, false, cond, List, [], ◌∷◌, ◌++◌, map, length, Option, Some, None, refl, sym, ap, ◌∙◌, subst, arith, append_assoc}
use Rattle.std.specs.Prelude.{◌||◌, ◌==◌, nat_lt, not, is_some, filter, if◌then◌else◌}
use Rattle.std.specs.List.{AllByRecursion, list_any}
use Rattle.std.specs.List.Sorted.{IsStrictlySortedBy}
use Rattle.std.specs.Ordering.{is_lt, is_gt, ordering_then}
use Rattle.std.specs.declared.cmp.Ordering.{Ordering}
use Rattle.std.specs.declared.cmp.Ordering.TheVariants.{Less, Equal, Greater}
use Rattle.std.proofs.lemmas.Bool.Decides.{nat_tests}
use Rattle.std.proofs.lemmas.List.{append-nil}
use Rattle.std.proofs.lemmas.List.Elements.{filter-append}
use Rattle.frp_base.specs.declared.time.Time.{Time}
use Rattle.frp_base.specs.Time.{time_eq, time_cmp, parent_and_number}
use Rattle.frp_base.proofs.OrderLemmas.{time_cmp-transitive, time_cmp-equal}
use Rattle.frp_base.proofs.Booleans.{is_true, is_false}
use Rattle.frp_graph.specs.declared.trace.Node.{Node}
use Rattle.frp_graph.specs.declared.trace.Moment.{Moment}
use Rattle.frp_graph.specs.declared.trace.Sent.{Sent}
use Rattle.frp_graph.specs.Trace.{live, moment_at, moments_before}
use Rattle.frp_graph.specs.Births.{build}
use Rattle.frp_graph.specs.Moments.{AtEach, items_to_split, live_at, splits_at, is_child_due, is_due, is_of_transaction, transaction, moments_of}
use Rattle.frp_graph.proofs.Order.{lt_less}
use Rattle.frp_graph.proofs.Lists.{time_same}
use Rattle.frp_graph.proofs.Times.{parent_begins}
use Rattle.frp_graph.proofs.Transactions.{moment_of_some, none_unsent}

-- Times before a place.

abbrev pub before : ℕ → Time → Bool
before k t = is_lt (time_cmp t (k ∷ []))

no_less : (t : Time) → is_lt (time_cmp t []) ≡ false
no_less [] = refl
no_less (n ∷ t) = refl

pub before_first : (n k : ℕ) (t : Time) → before k (n ∷ t) ≡ nat_lt n k
before_first n k t = by (nat_lt n k) (n == k) where
  by : (a b : Bool) → is_lt (ordering_then (cond a Less (cond b Equal Greater)) (time_cmp t [])) ≡ a
  by true b = refl
  by false true = no_less t
  by false false = refl

-- what is at or before a time that is before the place is so too
pub before_earlier : (k : ℕ) (t u : Time) → not (is_gt (time_cmp t u)) ≡ true → before k u ≡ true → before k t ≡ true
before_earlier k t u h b = by (time_cmp t u) refl h where
  by : (o : Ordering) → time_cmp t u ≡ o → not (is_gt o) ≡ true → before k t ≡ true
  by Less e g = ap is_lt (time_cmp-transitive t u (k ∷ []) e (lt_less (time_cmp u (k ∷ [])) b))
  by Equal e g = let s : t ≡ u = (time_cmp-equal t u).0 e in subst (λ r. before k r ≡ true) (sym s) b
  by Greater e g = absurd cc

-- Filters.

pub filter_none : (q : Moment → Bool) (ms : List Moment) → AllByRecursion (λ m. q m ≡ false) ms → filter q ms ≡ []
filter_none q [] h = refl
filter_none q (m ∷ ms) h = rw h.0 (filter_none q ms h.1)

pub filter_each : (q : Moment → Bool) (ms : List Moment) → AllByRecursion (λ m. q m ≡ true) ms → filter q ms ≡ ms
filter_each q [] h = refl
filter_each q (m ∷ ms) h = rw h.0 (ap (λ ks. m ∷ ks) (filter_each q ms h.1))

-- moments at which a test fails add nothing to those at which it holds
pub filter_apart : (q : Moment → Bool) (ms ks : List Moment) → AllByRecursion (λ m. q m ≡ false) ks → filter q (ms ++ ks) ≡ filter q ms
filter_apart q ms ks h = filter-append q ms ks ∙ ap (λ ls. filter q ms ++ ls) (filter_none q ks h) ∙ append-nil (filter q ms)

pub filter_within : (p q : Moment → Bool) → ((m : Moment) → p m ≡ true → q m ≡ true) → (ms : List Moment) → filter p (filter q ms) ≡ filter p ms
filter_within p q f [] = refl
filter_within p q f (m ∷ ms) = by (q m) (p m) refl refl (filter_within p q f ms) where
  by : (a b : Bool) → q m ≡ a → p m ≡ b → filter p (filter q ms) ≡ filter p ms → filter p (cond a (m ∷ filter q ms) (filter q ms)) ≡ cond b (m ∷ filter p ms) (filter p ms)
  by true true e g r = rw g (ap (λ ks. m ∷ ks) r)
  by true false e g r = rw g r
  by false true e g r = absurd (let t = f m g in cc)
  by false false e g r = r

-- The moments before a place are a beginning of the trace.

pub record Begins (ms few : List Moment) : Type 0 where
  pub rest : List Moment
  pub is : ms ≡ few ++ rest

later_none : (k : ℕ) (t : Time) → before k t ≡ false → (ms : List Moment) → AllByRecursion (λ u. time_cmp t u ≡ Less) (map (λ m. m.time) ms) → AllByRecursion (λ m. before k m.time ≡ false) ms
later_none k t b [] h = tt
later_none k t b (m ∷ ms) h =
    (is_false (before k m.time) (λ e. let l = time_cmp-transitive t m.time (k ∷ []) h.0 (lt_less (time_cmp m.time (k ∷ [])) e) in let g : before k t ≡ true = ap is_lt l in cc), later_none k t b ms h.1)

pub begins : (k : ℕ) (ms : List Moment) → IsStrictlySortedBy time_cmp (map (λ m. m.time) ms) → Begins ms (moments_before (k ∷ []) ms)
unfolding IsStrictlySortedBy
begins k [] h = record { rest = []; is = refl }
begins k (m ∷ ms) h = by (before k m.time) refl (begins k ms h.1) where
  by : (b : Bool) → before k m.time ≡ b → Begins ms (moments_before (k ∷ []) ms) → Begins (m ∷ ms) (cond b (m ∷ moments_before (k ∷ []) ms) (moments_before (k ∷ []) ms))
  by true e r = record { rest = r.rest; is = ap (λ ks. m ∷ ks) r.is }
  by false e r = let n = filter_none (λ m. before k m.time) ms (later_none k m.time e ms h.0) in record { rest = m ∷ ms; is = rw n refl }

pub each_beginning : (P : List Moment → Moment → Type 0) (past ms rest : List Moment) → AtEach P past (ms ++ rest) → AtEach P past ms
each_beginning P past [] rest h = tt
each_beginning P past (m ∷ ms) rest h = (h.0, each_beginning P (past ++ m ∷ []) ms rest h.1)

pub all_before : (q : Moment → Bool) (ms : List Moment) → AllByRecursion (λ m. q m ≡ true) (filter q ms)
all_before q [] = tt
all_before q (m ∷ ms) = by (q m) refl (all_before q ms) where
  by : (b : Bool) → q m ≡ b → AllByRecursion (λ m. q m ≡ true) (filter q ms) → AllByRecursion (λ m. q m ≡ true) (cond b (m ∷ filter q ms) (filter q ms))
  by true e r = (e, r)
  by false e r = r

pub live_append : (ms ks : List Moment) → live (ms ++ ks) ≡ live ms ++ live ks
live_append [] ks = refl
live_append (m ∷ ms) ks = ap (λ xs. m.born ++ xs) (live_append ms ks) ∙ sym (append_assoc m.born (live ms) (live ks))

-- Due times.

any_more : {A : Type 0} (p : A → Bool) (xs ys : List A) → AllByRecursion (λ y. p y ≡ false) ys → list_any p (xs ++ ys) ≡ list_any p xs
any_more p [] [] h = refl
any_more p [] (y ∷ ys) h = rw h.0 (any_more p [] ys h.1)
any_more p (x ∷ xs) ys h = ap (λ b. p x || b) (any_more p xs ys h)

pub not_build : (k : ℕ) (t : Time) → 0 < k → before k t ≡ false → time_eq build t ≡ false
not_build k t l b = is_false (time_eq build t) (λ e.
    let s : before k build ≡ false = subst (λ u. before k u ≡ false) (sym (time_same build t e)) b in
    let f : before k build ≡ nat_lt 0 k = before_first 0 k [] in
    let g : nat_lt 0 k ≡ true = grind (arith, nat_tests) in
    cc)

pub no_send : (k : ℕ) (t : Time) → before k t ≡ false → (sends : List Sent) → AllByRecursion (λ s. s.place < k) sends → list_any (λ s. time_eq (s.place ∷ []) t) sends ≡ false
no_send k t b [] h = refl
no_send k t b (s ∷ sends) h =
    let e : time_eq (s.place ∷ []) t ≡ false = is_false (time_eq (s.place ∷ []) t) (λ e.
    let same : before k (s.place ∷ []) ≡ false = subst (λ u. before k u ≡ false) (sym (time_same (s.place ∷ []) t e)) b in
    let f : before k (s.place ∷ []) ≡ nat_lt s.place k = before_first s.place k [] in
    let l : s.place < k = h.0 in
    let g : nat_lt s.place k ≡ true = grind (arith, nat_tests) in
    cc) in
    rw e (no_send k t b sends h.1)

-- a child is before a place where its parent is
parent_before : (k : ℕ) (t u : Time) (i : ℕ) → parent_and_number t ≡ Some (u, i) → before k u ≡ before k t
parent_before k [] u i h = absurd cc
parent_before k (n ∷ t) u i h = let b = parent_begins n t u i h in ap (before k) b.1 ∙ before_first n k b.0 ∙ sym (before_first n k t)

module _ (k : ℕ) (trace : List Moment) where
  abbrev pub few : List Moment
  few = moments_before (k ∷ []) trace

  moment_few : (t : Time) → moment_at few t ≡ (if before k t then moment_at trace t else None)
  moment_few t = moment_of_some (before k) trace t

  live_few : (u : Time) → before k u ≡ true → live_at few u ≡ live_at trace u
  live_few u b = ap live (filter_within (λ m. not (is_gt (time_cmp m.time u))) (λ m. before k m.time) (λ m h. before_earlier k m.time u h b) trace)

  splits_few : (u : Time) (i : ℕ) (o : Option Moment) → before k u ≡ true → splits_at few u i o ≡ splits_at trace u i o
  splits_few u i None b = refl
  splits_few u i (Some m) b = ap (list_any (λ (x : Node). nat_lt i (items_to_split m x.shape))) (live_few u b)

  child_few : (t : Time) (p : Option (Time × ℕ)) → parent_and_number t ≡ p → before k t ≡ true → is_child_due few p ≡ is_child_due trace p
  child_few t None e b = refl
  child_few t (Some p) e b =
      let u : before k p.0 ≡ true = parent_before k t p.0 p.1 e ∙ b in
      let m : moment_at few p.0 ≡ moment_at trace p.0 = moment_few p.0 ∙ (rw u refl) in
      ap (λ (o : Option Moment). splits_at few p.0 p.1 o) m ∙ splits_few p.0 p.1 (moment_at trace p.0) u

  no_child : (t : Time) (p : Option (Time × ℕ)) → parent_and_number t ≡ p → before k t ≡ false → is_child_due few p ≡ false
  no_child t None e b = refl
  no_child t (Some p) e b =
      let u : before k p.0 ≡ false = parent_before k t p.0 p.1 e ∙ b in
      let m : moment_at few p.0 ≡ None = moment_few p.0 ∙ (rw u refl) in
      ap (λ (o : Option Moment). splits_at few p.0 p.1 o) m

  three : (a b c d e f : Bool) → a ≡ d → b ≡ e → c ≡ f → (a || b || c) ≡ (d || e || f)
  three a b c d e f p q r = λ i. p i || q i || r i

  pub due_few : (sends more : List Sent) → 0 < k → AllByRecursion (λ s. s.place < k) sends → AllByRecursion (λ s. s.place ≡ k) more
      → ((t : Time) → is_some (moment_at trace t) ≡ is_due (sends ++ more) trace t) → (t : Time) → is_some (moment_at few t) ≡ is_due sends few t
  due_few sends more l early last due t = by (before k t) refl where
    elsewhere : before k t ≡ true → (ss : List Sent) → AllByRecursion (λ s. s.place ≡ k) ss → AllByRecursion (λ s. time_eq (s.place ∷ []) t ≡ false) ss
    elsewhere b [] h = tt
    elsewhere b (s ∷ ss) h = (
      is_false (time_eq (s.place ∷ []) t) (λ e.
          let same : before k (s.place ∷ []) ≡ true = subst (λ u. before k u ≡ true) (sym (time_same (s.place ∷ []) t e)) b in
          let f : before k (s.place ∷ []) ≡ nat_lt s.place k = before_first s.place k [] in
          let p : s.place ≡ k = h.0 in
          let g : nat_lt s.place k ≡ false = grind (arith, nat_tests) in
          cc),
      elsewhere b ss h.1,
    )

    by : (b : Bool) → before k t ≡ b → is_some (moment_at few t) ≡ is_due sends few t
    by true b =
        let m : moment_at few t ≡ moment_at trace t = moment_few t ∙ (rw b refl) in
        ap is_some m ∙ due t ∙ three (time_eq build t) (list_any (λ s. time_eq (s.place ∷ []) t) (sends ++ more)) (is_child_due trace (parent_and_number t))
        (time_eq build t) (list_any (λ s. time_eq (s.place ∷ []) t) sends) (is_child_due few (parent_and_number t))
        refl (any_more (λ s. time_eq (s.place ∷ []) t) sends more (elsewhere b more last)) (sym (child_few t (parent_and_number t) refl b))
    by false b =
        let m : moment_at few t ≡ None = moment_few t ∙ (rw b refl) in
        ap is_some m ∙ sym (three (time_eq build t) (list_any (λ s. time_eq (s.place ∷ []) t) sends) (is_child_due few (parent_and_number t)) false false false
        (not_build k t l b) (no_send k t b sends early) (no_child t (parent_and_number t) refl b))

-- Places before a place, and transactions before it.

pub before_place : (j k : ℕ) → j ≤ k → (t : Time) → before j t ≡ true → before k t ≡ true
before_place j k l [] h = refl
before_place j k l (n ∷ t) h =
    let a : before j (n ∷ t) ≡ nat_lt n j = before_first n j t in
    let b : before k (n ∷ t) ≡ nat_lt n k = before_first n k t in
    let c : nat_lt n j ≡ true = sym a ∙ h in
    b ∙ (let d : nat_lt n k ≡ true = grind (arith, nat_tests) in d)

pub of_before : (j k : ℕ) → j < k → (t : Time) → is_of_transaction j t ≡ true → before k t ≡ true
of_before j k l [] h = absurd cc
of_before j k l (n ∷ t) h = before_first n k t ∙ (let d : nat_lt n k ≡ true = grind (arith, nat_tests) in d)

-- a moment of a transaction is before no earlier place, nor of an earlier transaction; one before a place isn't of its
pub not_before : (j k : ℕ) → j ≤ k → (t : Time) → is_of_transaction k t ≡ true → before j t ≡ false
not_before j k l [] h = absurd cc
not_before j k l (n ∷ t) h = before_first n j t ∙ (let d : nat_lt n j ≡ false = grind (arith, nat_tests) in d)

pub not_earlier : (j k : ℕ) → j < k → (t : Time) → is_of_transaction k t ≡ true → is_of_transaction j t ≡ false
not_earlier j k l [] h = refl
not_earlier j k l (n ∷ t) h = grind (arith, nat_tests)

pub not_of : (k : ℕ) (t : Time) → before k t ≡ true → is_of_transaction k t ≡ false
not_of k [] h = refl
not_of k (n ∷ t) h = let l : nat_lt n k ≡ true = sym (before_first n k t) ∙ h in grind (arith, nat_tests)

module _ (k : ℕ) (trace : List Moment) where
  pub before_few : (j : ℕ) → j ≤ k → moments_before (j ∷ []) (moments_before (k ∷ []) trace) ≡ moments_before (j ∷ []) trace
  before_few j l = filter_within (λ m. before j m.time) (λ m. before k m.time) (λ m. before_place j k l m.time) trace

  pub transaction_few : (j : ℕ) → j < k → transaction j (moments_before (k ∷ []) trace) ≡ transaction j trace
  transaction_few j l = filter_within (λ m. is_of_transaction j m.time) (λ m. before k m.time) (λ m. of_before j k l m.time) trace

  pub count_few : (j : ℕ) → j < k → moments_of j (moments_before (k ∷ []) trace) ≡ moments_of j trace
  count_few j l = ap length (transaction_few j l)

-- A trace whose sends are all before a place has its moments before it.

module _ (k : ℕ) where
  time_early : (t : Time) → ((n : ℕ) → k ≤ n → is_of_transaction n t ≡ false) → before k t ≡ true
  time_early [] f = refl
  time_early (n ∷ t) f = before_first n k t ∙ is_true (nat_lt n k) (λ e.
      let l : k ≤ n = grind (arith, nat_tests) in
      let g : n == n ≡ false = f n l in
      let s : n == n ≡ true = grind (arith, nat_tests) in
      cc)

  none_first : (b : Bool) (m : Moment) (ms : List Moment) → length (cond b (m ∷ ms) ms) ≡ 0 → (b ≡ false) × (length ms ≡ 0)
  none_first true m ms h = absurd (omega arith)
  none_first false m ms h = (refl, h)

  all_early : (ms : List Moment) → ((n : ℕ) → k ≤ n → moments_of n ms ≡ 0) → AllByRecursion (λ m. before k m.time ≡ true) ms
  all_early [] f = tt
  all_early (m ∷ ms) f = let p = λ (n : ℕ) (l : k ≤ n). none_first (is_of_transaction n m.time) m (transaction n ms) (f n l) in (time_early m.time (λ n l. (p n l).0), all_early ms (λ n l. (p n l).1))

  unsent : (n : ℕ) → k ≤ n → (sends : List Sent) → AllByRecursion (λ s. s.place < k) sends → list_any (λ s. s.place == n) sends ≡ false
  unsent n l [] h = refl
  unsent n l (s ∷ sends) h = let p : s.place < k = h.0 in let e : s.place == n ≡ false = grind (arith, nat_tests) in rw e (unsent n l sends h.1)

  pub trace_early : (sends : List Sent) (trace : List Moment) → ((t : Time) → is_some (moment_at trace t) ≡ is_due sends trace t) → 0 < k → AllByRecursion (λ s. s.place < k) sends
      → AllByRecursion (λ m. before k m.time ≡ true) trace
  trace_early sends trace due l h = all_early trace (λ n g. none_unsent sends trace due n (λ e. omega arith) (unsent n g sends h))
