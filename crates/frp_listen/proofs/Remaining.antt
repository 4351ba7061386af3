-- What is left for a listener, as the trace grows and as items are given.
use Rattle.std.proofs.Common.{◌≡◌, ℕ, ◌<◌, ◌≤◌, Bool, true, false, List, [], ◌∷◌, ◌++◌, length, drop, take, Some, None, Option, refl, sym, ap, ◌∙◌, subst, suc, zero, arith, append_assoc}
use Rattle.std.proofs.lemmas.Bool.Decides.{nat_tests}
use Rattle.std.specs.Prelude.{◌+◌, ◌-◌, ◌==◌, if◌then◌else◌, is_some, slice_get, IfSome}
use Rattle.std.specs.Option.{option_copied}
use Rattle.std.specs.Borrow.{Bor}
use Rattle.std.specs.List.{AllByRecursion}
use Rattle.std.specs.Ordering.{is_lt}
use Rattle.std.specs.declared.cmp.Ordering.{Ordering}
use Rattle.std.specs.declared.cmp.Ordering.TheVariants.{Less, Equal, Greater}
use Rattle.frp_base.specs.declared.time.Time.{Time}
use Rattle.frp_base.specs.declared.name.Name.{Name}
use Rattle.frp_base.specs.declared.val.Val.{Val}
use Rattle.frp_base.specs.Time.{time_cmp}
use Rattle.frp_base.proofs.OrderLemmas.{time_cmp-reversed}
use Rattle.frp_graph.specs.declared.trace.Moment.{Moment}
use Rattle.frp_graph.specs.Trace.{occ, moments_before, value_after}
use Rattle.frp_graph.proofs.Before.{before, filter_each, filter_apart}
use Rattle.frp_history.specs.declared.history.Delivered.{Delivered}
use Rattle.frp_history.specs.declared.history.Key.{Key}
use Rattle.frp_history.specs.Listeners.{key_eq}
use Rattle.frp_history.specs.Windows.{delivered, items_after, window}
use Rattle.frp_listen.specs.declared.state.ListenerState.{ListenerState}
use Rattle.frp_listen.specs.Listeners.{held, Changes, AreReached, happened, left, joined, joined_at, first_after, more_after, IsReached, AreBefore, AreAfter}

-- what is dropped of the first of two lists
pub drop_first : {A : Type 0} (n : ℕ) (xs ys : List A) → n ≤ length xs → drop n (xs ++ ys) ≡ drop n xs ++ ys
drop_first zero xs ys h = refl
drop_first (suc n) [] ys h = absurd (omega arith)
drop_first (suc n) (x ∷ xs) ys h = drop_first n xs ys (omega arith)

pub drop_past : {A : Type 0} (xs ys : List A) → drop (length xs) (xs ++ ys) ≡ ys
drop_past [] ys = refl
drop_past (x ∷ xs) ys = drop_past xs ys

pub happened_append : (n : Name) (xs ys : List Moment) → happened n (xs ++ ys) ≡ happened n xs ++ happened n ys
happened_append n [] ys = refl
happened_append n (m ∷ ms) ys =
    ap (λ r. delivered m.time (occ m n) ++ r) (happened_append n ms ys) ∙ sym (append_assoc (delivered m.time (occ m n)) (happened n ms) (happened n ys))

-- what happens later is left too
pub left_later : (trace later : List Moment) (l : ListenerState) → IsReached trace l → left (trace ++ later) l ≡ left trace l ++ happened l.node later
left_later trace later l h =
    ap (λ ms. delivered (l.place ∷ []) l.first ++ happened l.node ms) (drop_first l.passed trace later h)
    ∙ ap (λ r. delivered (l.place ∷ []) l.first ++ r) (happened_append l.node (drop l.passed trace) later)
    ∙ sym (append_assoc (delivered (l.place ∷ []) l.first) (happened l.node (drop l.passed trace)) (happened l.node later))

-- The window.

not_before : (t u : Time) → is_lt (time_cmp t u) ≡ true → is_lt (time_cmp u t) ≡ false
not_before t u h = by (time_cmp t u) refl h where
  by : (o : Ordering) → time_cmp t u ≡ o → is_lt o ≡ true → is_lt (time_cmp u t) ≡ false
  by Less e g = ap is_lt ((time_cmp-reversed t u).0 e)
  by Equal e g = absurd cc
  by Greater e g = absurd cc

all_not_before : (j : ℕ) (ms : List Moment) → AreAfter j ms → AllByRecursion (λ m. before j m.time ≡ false) ms
all_not_before j [] h = tt
all_not_before j (m ∷ ms) h = (not_before (j ∷ []) m.time h.0, all_not_before j ms h.1)

none_of_before : (j : ℕ) (n : Name) (ms later : List Moment) → AreBefore j ms → items_after (j ∷ []) n (ms ++ later) ≡ items_after (j ∷ []) n later
none_of_before j n [] later h = refl
none_of_before j n (m ∷ ms) later h = rw (not_before m.time (j ∷ []) h.0) (none_of_before j n ms later h.1)

all_of_after : (j : ℕ) (n : Name) (ms : List Moment) → AreAfter j ms → items_after (j ∷ []) n ms ≡ happened n ms
all_of_after j n [] h = refl
all_of_after j n (m ∷ ms) h = rw h.0 (ap (λ r. delivered m.time (occ m n) ++ r) (all_of_after j n ms h.1))

pub window_left : (trace later : List Moment) (caller j : ℕ) (n : Name) (first : Option Val) → first ≡ value_after trace n → AreBefore j trace → AreAfter j later
    → left (trace ++ later) (joined caller n j first (length trace)) ≡ window (trace ++ later) n j
window_left trace later caller j n first e b a =
    let few : moments_before (j ∷ []) (trace ++ later) ≡ trace = filter_apart (λ m. before j m.time) trace later (all_not_before j later a) ∙ filter_each (λ m. before j m.time) trace b in
    λ i. delivered (j ∷ []) ((e ∙ ap (λ ms. value_after ms n) (sym few)) i) ++ (ap (happened n) (drop_past trace later) ∙ sym (none_of_before j n trace later b ∙ all_of_after j n later a)) i

-- A moment is passed.

pub is_some_copied : {A : Type 0} (o : Option (Bor A)) → is_some (option_copied o) ≡ is_some o
is_some_copied None = refl
is_some_copied (Some b) = refl

drop_suc : {A : Type 0} (xs : List A) (i : ℕ) (x : A) → slice_get xs i ≡ Some x → drop i xs ≡ x ∷ drop (suc i) xs
drop_suc [] i x e = absurd cc
drop_suc (y ∷ xs) zero x e = let same : y ≡ x = cc in ap (λ k. k ∷ xs) same
drop_suc (y ∷ xs) (suc i) x e = drop_suc xs i x e

drop_next : {A : Type 0} (xs : List A) (i : ℕ) (x : A) → slice_get xs i ≡ Some x → drop i xs ≡ x ∷ drop (i + 1) xs
drop_next xs i x e = let more : suc i ≡ i + 1 = omega arith in drop_suc xs i x e ∙ ap (λ k. x ∷ drop k xs) more

-- what is left after some items of a list
abbrev pub LeavesAs : List Delivered → ℕ → List Delivered → Type 0
LeavesAs items count rest = (drop count items ≡ rest) × (count ≤ length items)

module _ (n : Name) (trace : List Moment) (i : ℕ) (m : Moment) (there : slice_get trace i ≡ Some m) (more : ℕ) (rest : List Delivered) where
  here : happened n (drop i trace) ≡ delivered m.time (occ m n) ++ happened n (drop (i + 1) trace)
  here = ap (happened n) (drop_next trace i m there)

  pub pass_quiet : is_some (occ m n) ≡ false → LeavesAs (happened n (drop i trace)) more rest → LeavesAs (happened n (drop (i + 1) trace)) more rest
  pass_quiet q h = by (occ m n) q here where
    by : (o : Option Val) → is_some o ≡ false → happened n (drop i trace) ≡ delivered m.time o ++ happened n (drop (i + 1) trace) → LeavesAs (happened n (drop (i + 1) trace)) more rest
    by None q e = subst (λ items. LeavesAs items more rest) e h
    by (Some v) q e = absurd cc

  pub pass_fired : is_some (occ m n) ≡ true → 0 < more → LeavesAs (happened n (drop i trace)) more rest → LeavesAs (happened n (drop (i + 1) trace)) (more - 1) rest
  pass_fired q l h = by (occ m n) q here where
    one : (k : ℕ) (d : Delivered) (ds : List Delivered) → 0 < k → LeavesAs (d ∷ ds) k rest → LeavesAs ds (k - 1) rest
    one zero d ds l h = absurd (omega arith)
    one (suc k) d ds l h = let less : suc k - 1 ≡ k = omega arith in (ap (λ j. drop j ds) less ∙ h.0, (let u = h.1 in omega arith))

    by : (o : Option Val) → is_some o ≡ true → happened n (drop i trace) ≡ delivered m.time o ++ happened n (drop (i + 1) trace) → LeavesAs (happened n (drop (i + 1) trace)) (more - 1) rest
    by None q e = absurd cc
    by (Some v) q e = one more (record { time = m.time; value = v }) (happened n (drop (i + 1) trace)) l (subst (λ items. LeavesAs items more rest) e h)

-- The next items are given.

few_more : (count : ℕ) (first : Option Val) (place : ℕ) (ds : List Delivered) → count ≤ length (delivered (place ∷ []) first ++ ds) → more_after count first ≤ length ds
few_more count None place ds h = h
few_more count (Some v) place ds h = omega (arith, h)

pub few_to_pass : (trace : List Moment) (l : ListenerState) (count : ℕ) → count ≤ length (left trace l) → more_after count l.first ≤ length (happened l.node (drop l.passed trace))
few_to_pass trace l count h = few_more count l.first l.place (happened l.node (drop l.passed trace)) h

dropped : (count : ℕ) (first : Option Val) (place : ℕ) (ds : List Delivered)
    → delivered (place ∷ []) (first_after count first) ++ drop (more_after count first) ds ≡ drop count (delivered (place ∷ []) first ++ ds)
dropped count None place ds = by (count == 0) where
  by : (b : Bool) → delivered (place ∷ []) (if b then None else None) ++ drop count ds ≡ drop count ds
  by true = refl
  by false = refl
dropped zero (Some v) place ds = refl
dropped (suc k) (Some v) place ds =
    let more : (suc k == 0) ≡ false = grind (arith, nat_tests) in
    let less : suc k - 1 ≡ k = omega arith in
    rw more (ap (λ j. drop j ds) less)

pub held_there : (l : ListenerState) → joined_at l.place (Some l) ≡ Some l
held_there l = let same : (l.place == l.place) ≡ true = grind (arith, nat_tests) in rw same refl

abbrev passed_to : ListenerState → ℕ → ℕ → ListenerState
passed_to l count passed = record l { first = first_after count l.first; passed = passed }

pub left_passed : (trace : List Moment) (l : ListenerState) (count passed : ℕ) → IsReached trace l → count ≤ length (left trace l) → passed ≤ length trace
    → happened l.node (drop passed trace) ≡ drop (more_after count l.first) (happened l.node (drop l.passed trace))
    → (later : List Moment) → left (trace ++ later) (passed_to l count passed) ≡ drop count (left (trace ++ later) l)
left_passed trace l count passed reached few within is later =
    let now : left trace (passed_to l count passed) ≡ drop count (left trace l)
    = ap (λ ds. delivered (l.place ∷ []) (first_after count l.first) ++ ds) is ∙ dropped count l.first l.place (happened l.node (drop l.passed trace)) in
    left_later trace later (passed_to l count passed) within
    ∙ ap (λ ds. ds ++ happened l.node later) now
    ∙ sym (drop_first count (left trace l) (happened l.node later) few)
    ∙ ap (drop count) (sym (left_later trace later l reached))

-- At most so many items are taken.

pub take_full : (items rest : List Delivered) (max : ℕ) → length items ≡ max → items ≡ take max (items ++ rest)
take_full items rest max e = subst (λ k. items ≡ take k (items ++ rest)) e (again items) where
  again : (ds : List Delivered) → ds ≡ take (length ds) (ds ++ rest)
  again [] = refl
  again (d ∷ ds) = ap (λ k. d ∷ k) (again ds)

-- No listener that is held has passed more moments than there are.

pub none_reached : (now : List Moment) → AreReached now []
none_reached now key l e = absurd cc

pub change_reached : (now : List Moment) (old new : List (Option ListenerState)) (key : Key) (o : Option ListenerState) → Changes old new key o → IfSome o (IsReached now)
    → AreReached now old → AreReached now new
change_reached now old new key o change fresh reached other l e = by (key_eq other key) o fresh (sym (change other) ∙ e) where
  by : (b : Bool) (o : Option ListenerState) → IfSome o (IsReached now) → (if b then o else held old other) ≡ Some l → IsReached now l
  by true None f h = absurd cc
  by true (Some k) f h = let same : k ≡ l = cc in subst (IsReached now) same f
  by false o f h = reached other l h
