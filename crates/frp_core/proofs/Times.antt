-- The times of a history's sends: they rise, and each is of one number, below the next place.
use Rattle.std.proofs.Common.{◌≡◌, ◌⊎◌, ℕ, ◌+◌, ◌<◌, ◌≤◌, Bool, true, false, List, [], ◌∷◌, ◌++◌, map, length, refl, sym, ap, ◌∙◌, subst, arith, inl, inr}
use Rattle.std.specs.Prelude.{◌==◌, if◌then◌else◌}
use Rattle.std.specs.List.{AllByRecursion}
use Rattle.std.specs.List.Sorted.{IsStrictlySortedBy}
use Rattle.std.specs.Ordering.{nat_cmp}
use Rattle.std.specs.declared.cmp.Ordering.TheVariants.{Less}
use Rattle.std.proofs.lemmas.Bool.Decides.{nat_tests}
use Rattle.frp_base.specs.declared.time.Time.{Time}
use Rattle.frp_base.specs.Time.{time_cmp, time_eq}
use Rattle.frp_history.specs.declared.history.Cmd.{Cmd}
use Rattle.frp_history.specs.declared.history.Cmd.TheVariants.{Send, Group}
use Rattle.frp_history.specs.declared.history.Reply.{Reply}
use Rattle.frp_history.specs.declared.history.Reply.TheVariants.{Accepted}
use Rattle.frp_history.specs.declared.history.Entry.{Entry}
use Rattle.frp_graph.specs.declared.trace.Moment.{Moment}
use Rattle.frp_graph.specs.declared.trace.Sent.{Sent}
use Rattle.frp_history.specs.History.{sent_by, is_accepted, sends_at, accepted_sends, sends_from}
use Rattle.frp_graph.specs.Births.{build}
use Rattle.frp_base.proofs.Lists.{all_follow}
use Rattle.frp_core.specs.Core.{times_of, IsSingle}

-- what holds of each holds of each of two lists, and of what they are mapped to

pub all_mapped : {A B : Type 0} (f : A → B) (P : B → Type 0) (xs : List A) → AllByRecursion P (map f xs) → AllByRecursion (λ x. P (f x)) xs
all_mapped f P [] h = tt
all_mapped f P (x ∷ xs) h = (h.0, all_mapped f P xs h.1)

-- times of one number

pub time_less : (a b : ℕ) → a < b → time_cmp (a ∷ []) (b ∷ []) ≡ Less
time_less a b h = let e : nat_cmp a b ≡ Less = grind (arith, nat_tests) in rw e refl

-- a time of one number below n
abbrev pub IsBefore : ℕ → Time → Type 0
IsBefore n t = (a : ℕ) × ((t ≡ a ∷ []) × (a < n))

abbrev pub at_place : Sent → Time
at_place s = s.place ∷ []

-- a command that sends nothing sends nothing, whatever its reply
pub none_sent : (k : ℕ) (c : Cmd) (r : Reply) → sent_by c ≡ [] → accepted_sends k c r ≡ []
none_sent k c r e = by (is_accepted r) where
  by : (b : Bool) → (if b then sends_at k 0 (sent_by c) else []) ≡ []
  by true = ap (sends_at k 0) e
  by false = refl

-- a command that is no group sends nothing, or one value
one_or_none : (k : ℕ) (c : Cmd) (r : Reply) → IsSingle c → (accepted_sends k c r ≡ []) ⊎ ((s : Sent) × (accepted_sends k c r ≡ s ∷ []) × (at_place s ≡ k ∷ []))
one_or_none k (Send n v) (Accepted m) single = inr (record { place = k; part = 0; sink = n; value = v }, refl, refl)
one_or_none k (Send n v) _ single = inl refl
one_or_none k (Group sends) r single = absurd single
one_or_none k c r single = inl (none_sent k c r refl)

module _ (P : Time → Type 0) where
  send_and : (k : ℕ) (c : Cmd) (r : Reply) (rest : List Sent) → IsSingle c → P (k ∷ []) → AllByRecursion P (map at_place rest) → AllByRecursion P (map at_place (accepted_sends k c r ++ rest))
  send_and k c r rest single h a = elim (one_or_none k c r single) [ inl e ↦ rw e a | inr s ↦ rw s.1 (subst P (sym s.2) h, a) ]

  -- a fact of the times of all places from k up to but not including n
  pub sends_all : (k n : ℕ) (es : List Entry) → AllByRecursion (λ e. IsSingle e.cmd) es → k + length es ≤ n → ((j : ℕ) → k ≤ j → j < n → P (j ∷ [])) → AllByRecursion P (map at_place (sends_from k es))
  sends_all k n [] single h f = tt
  sends_all k n (e ∷ es) single h f =
      send_and k e.cmd e.reply (sends_from (k + 1) es) single.0 (f k (omega arith) (omega arith)) (sends_all (k + 1) n es single.1 (omega arith) (λ j p q. f j (omega arith) q))

send_rise : (k : ℕ) (c : Cmd) (r : Reply) (rest : List Sent) → IsSingle c → AllByRecursion (λ u. time_cmp (k ∷ []) u ≡ Less) (map at_place rest)
    → IsStrictlySortedBy time_cmp (map at_place rest) → IsStrictlySortedBy time_cmp (map at_place (accepted_sends k c r ++ rest))
unfolding IsStrictlySortedBy
send_rise k c r rest single h a = elim (one_or_none k c r single) [
  | inl e ↦ rw e a
  | inr s ↦ rw s.1 (subst (λ t. AllByRecursion (λ u. time_cmp t u ≡ Less) (map at_place rest)) (sym s.2) h, a)
]

sends_rise : (k : ℕ) (es : List Entry) → AllByRecursion (λ e. IsSingle e.cmd) es → IsStrictlySortedBy time_cmp (map at_place (sends_from k es))
unfolding IsStrictlySortedBy
sends_rise k [] single = tt
sends_rise k (e ∷ es) single = send_rise k e.cmd e.reply (sends_from (k + 1) es) single.0
    (sends_all (λ u. time_cmp (k ∷ []) u ≡ Less) (k + 1) (k + 1 + length es) es single.1 (omega arith) (λ j p q. time_less k j (omega arith)))
    (sends_rise (k + 1) es single.1)

-- the times of a history rise
pub times_rise : (es : List Entry) → AllByRecursion (λ e. IsSingle e.cmd) es → IsStrictlySortedBy time_cmp (times_of es)
unfolding IsStrictlySortedBy
times_rise es single = (sends_all (λ u. time_cmp build u ≡ Less) 1 (1 + length es) es single (omega arith) (λ j p q. time_less 0 j (omega arith)), sends_rise 1 es single)

-- and are of one number, below each place after the history's
pub times_before : (es : List Entry) (n : ℕ) → AllByRecursion (λ e. IsSingle e.cmd) es → length es < n → AllByRecursion (IsBefore n) (times_of es)
times_before es n single h = ((0, (refl, omega arith)), sends_all (IsBefore n) 1 n es single (omega arith) (λ j p q. (j, (refl, q))))

-- moments whose times are of one number, below n

pub other_times : (n : ℕ) (ms : List Moment) → AllByRecursion (λ m. IsBefore n m.time) ms → AllByRecursion (λ m. time_eq m.time (n ∷ []) ≡ false) ms
other_times n ms h = all_follow _ _ (λ m b. ap (λ t. time_eq t (n ∷ [])) b.1.0 ∙ differs b.0 n b.1.1) ms h where
  differs : (a n : ℕ) → a < n → time_eq (a ∷ []) (n ∷ []) ≡ false
  differs a n h = let e : (a == n) ≡ false = grind (arith, nat_tests) in rw e refl
