-- Due times: what is due at a time depends on the moments before it, and so two traces that begin alike go on at one time.
use Rattle.std.proofs.Common.{◌≡◌, ℕ, Bool, true, false, List, [], ◌∷◌, ◌++◌, map, Option, Some, None, refl, sym, ap, ◌∙◌, subst}
use Rattle.std.specs.Prelude.{not, ◌||◌, nat_lt, is_some, if◌then◌else◌}
use Rattle.std.specs.List.{AllByRecursion, list_any}
use Rattle.std.specs.List.Sorted.{IsStrictlySortedBy}
use Rattle.std.specs.Ordering.{is_lt, is_gt}
use Rattle.std.specs.declared.cmp.Ordering.TheVariants.{Less, Equal, Greater}
use Rattle.frp_base.specs.declared.time.Time.{Time}
use Rattle.frp_base.specs.Time.{time_eq, time_cmp, parent_and_number}
use Rattle.frp_base.proofs.Booleans.{is_false}
use Rattle.frp_base.proofs.OrderLemmas.{time_cmp-transitive, time_cmp-reversed, time_cmp-beginnings}
use Rattle.frp_graph.specs.declared.trace.Node.{Node}
use Rattle.frp_graph.specs.declared.trace.Moment.{Moment}
use Rattle.frp_graph.specs.declared.trace.Sent.{Sent}
use Rattle.frp_graph.specs.Trace.{live, moment_at, moments_before}
use Rattle.frp_graph.specs.Births.{build}
use Rattle.frp_graph.specs.Moments.{items_to_split, splits_at, is_child_due, is_due}
use Rattle.frp_graph.proofs.Before.{filter_each, filter_apart}
use Rattle.frp_graph.proofs.Lists.{time_same, time_eq-same}
use Rattle.frp_graph.proofs.Order.{time_cmp-same}
use Rattle.frp_graph.proofs.Times.{child_is}
use Rattle.frp_audit.proofs.Pasts.{Earlier}

-- each of these moments is after a time
abbrev pub Later : Time → List Moment → Type 0
Later t ms = AllByRecursion (λ m. time_cmp t m.time ≡ Less) ms

pub later_more : (u t : Time) (ms : List Moment) → time_cmp u t ≡ Less → Later t ms → Later u ms
later_more u t [] l h = tt
later_more u t (m ∷ ms) l h = (time_cmp-transitive u t m.time l h.0, later_more u t ms l h.1)

not_less : (t u : Time) → t ≡ u → time_cmp t u ≡ Less → ⊥
not_less t u e l = let s : time_cmp t t ≡ Less = subst (λ k. time_cmp t k ≡ Less) (sym e) l in let q : time_cmp t t ≡ Equal = time_cmp-same t in cc

-- none of them is at it
pub none_at : (t : Time) (ms : List Moment) → Later t ms → moment_at ms t ≡ None
none_at t [] h = refl
none_at t (m ∷ ms) h =
    let apart : time_eq m.time t ≡ false = is_false (time_eq m.time t) (λ e. not_less t m.time (sym (time_same m.time t e)) h.0) in
    rw apart (none_at t ms h.1)

pub none_earlier : (t : Time) (ms : List Moment) → Earlier t ms → moment_at ms t ≡ None
none_earlier t [] h = refl
none_earlier t (m ∷ ms) h =
    let apart : time_eq m.time t ≡ false = is_false (time_eq m.time t) (λ e. not_less m.time t (time_same m.time t e) h.0) in
    rw apart (none_earlier t ms h.1)

at_first : (t : Time) (ms rest : List Moment) → moment_at rest t ≡ None → moment_at (ms ++ rest) t ≡ moment_at ms t
at_first t [] rest h = h
at_first t (m ∷ ms) rest h = by (time_eq m.time t) (at_first t ms rest h) where
  by : (b : Bool) → moment_at (ms ++ rest) t ≡ moment_at ms t → (if b then Some m else moment_at (ms ++ rest) t) ≡ (if b then Some m else moment_at ms t)
  by true r = refl
  by false r = r

pub at_next : (t : Time) (ms rest : List Moment) → moment_at ms t ≡ None → moment_at (ms ++ rest) t ≡ moment_at rest t
at_next t [] rest h = refl
at_next t (m ∷ ms) rest h = by (time_eq m.time t) h (at_next t ms rest) where
  by : (b : Bool) → (if b then Some m else moment_at ms t) ≡ None → (moment_at ms t ≡ None → moment_at (ms ++ rest) t ≡ moment_at rest t)
      → (if b then Some m else moment_at (ms ++ rest) t) ≡ moment_at rest t
  by true e r = absurd cc
  by false e r = r e

-- What is due at t is so by the moments before it.

not_until : (u : Time) (ms : List Moment) → Later u ms → AllByRecursion (λ m. not (is_gt (time_cmp m.time u)) ≡ false) ms
not_until u [] h = tt
not_until u (m ∷ ms) h = let g : time_cmp m.time u ≡ Greater = (time_cmp-reversed u m.time).0 h.0 in (rw g refl, not_until u ms h.1)

module _ (past rest : List Moment) where
  pub splits_same : (u : Time) (i : ℕ) → Later u rest → (o : Option Moment) → splits_at (past ++ rest) u i o ≡ splits_at past u i o
  splits_same u i h None = refl
  splits_same u i h (Some m) =
      ap (λ ms. list_any (λ (x : Node). nat_lt i (items_to_split m x.shape)) (live ms)) (filter_apart (λ m. not (is_gt (time_cmp m.time u))) past rest (not_until u rest h))

  child_same : (t : Time) → ((u : Time) → time_cmp u t ≡ Less → Later u rest) → (o : Option (Time × ℕ)) → parent_and_number t ≡ o → is_child_due (past ++ rest) o ≡ is_child_due past o
  child_same t h None e = refl
  child_same t h (Some p) e =
      let less : time_cmp p.0 t ≡ Less = subst (λ k. time_cmp p.0 k ≡ Less) (sym (child_is t p.0 p.1 e)) (time_cmp-beginnings p.0 p.1 []) in
      let later = h p.0 less in
      ap (λ o. splits_at (past ++ rest) p.0 p.1 o) (at_first p.0 past rest (none_at p.0 rest later)) ∙ splits_same p.0 p.1 later (moment_at past p.0)

  pub due_same : (sends : List Sent) (t : Time) → ((u : Time) → time_cmp u t ≡ Less → Later u rest) → is_due sends (past ++ rest) t ≡ is_due sends past t
  due_same sends t h = ap (λ b. time_eq build t || list_any (λ s. time_eq (s.place ∷ []) t) sends || b) (child_same t h (parent_and_number t) refl)

-- A trace that goes on after some moments: the other one can't go on later.

pub go_on_together : (sends : List Sent) (past ms rest : List Moment) (m : Moment)
    → ((t : Time) → is_some (moment_at (past ++ m ∷ ms) t) ≡ is_due sends (past ++ m ∷ ms) t)
    → ((t : Time) → is_some (moment_at (past ++ rest) t) ≡ is_due sends (past ++ rest) t)
    → Earlier m.time past → Later m.time ms → Later m.time rest → ⊥
go_on_together sends past ms rest m due other earlier later after =
    let none : moment_at past m.time ≡ None = none_earlier m.time past earlier in
    let first : moment_at (m ∷ ms) m.time ≡ Some m = rw (time_eq-same m.time) refl in
    let here : is_some (moment_at (past ++ m ∷ ms) m.time) ≡ true = ap is_some (at_next m.time past (m ∷ ms) none ∙ first) in
    let own = due_same past (m ∷ ms) sends m.time (λ u l. (l, later_more u m.time ms l later)) in
    let theirs = due_same past rest sends m.time (λ u l. later_more u m.time rest l after) in
    let there : is_some (moment_at (past ++ rest) m.time) ≡ true = other m.time ∙ theirs ∙ sym own ∙ sym (due m.time) ∙ here in
    let not_there : moment_at (past ++ rest) m.time ≡ None = at_next m.time past rest none ∙ none_at m.time rest after in
    let no : is_some (moment_at (past ++ rest) m.time) ≡ false = ap is_some not_there in
    cc

-- Rising times.

pub rise_parts : (past ms : List Moment) (m : Moment) → IsStrictlySortedBy time_cmp (map (λ m. m.time) (past ++ m ∷ ms)) → Earlier m.time past × Later m.time ms
unfolding IsStrictlySortedBy
rise_parts [] ms m h = (tt, from_map ms h.0) where
  from_map : (ks : List Moment) → AllByRecursion (λ u. time_cmp m.time u ≡ Less) (map (λ m. m.time) ks) → Later m.time ks
  from_map [] h = tt
  from_map (k ∷ ks) h = (h.0, from_map ks h.1)
rise_parts (k ∷ past) ms m h = let r = rise_parts past ms m h.1 in ((in_middle past h.0, r.0), r.1) where
  in_middle : (ks : List Moment) → AllByRecursion (λ u. time_cmp k.time u ≡ Less) (map (λ m. m.time) (ks ++ m ∷ ms)) → time_cmp k.time m.time ≡ Less
  in_middle [] h = h.0
  in_middle (j ∷ ks) h = in_middle ks h.1

-- the moments before the first of the rest are those before
are_before : (t : Time) (ms : List Moment) → Earlier t ms → AllByRecursion (λ m. is_lt (time_cmp m.time t) ≡ true) ms
are_before t [] h = tt
are_before t (m ∷ ms) h = (ap is_lt h.0, are_before t ms h.1)

not_before : (t : Time) (ms : List Moment) → Later t ms → AllByRecursion (λ m. is_lt (time_cmp m.time t) ≡ false) ms
not_before t [] h = tt
not_before t (m ∷ ms) h = let g : time_cmp m.time t ≡ Greater = (time_cmp-reversed t m.time).0 h.0 in (ap is_lt g, not_before t ms h.1)

pub before_first : (past ms : List Moment) (m : Moment) → Earlier m.time past → Later m.time ms → moments_before m.time (past ++ m ∷ ms) ≡ past
before_first past ms m earlier later =
    filter_apart (λ k. is_lt (time_cmp k.time m.time)) past (m ∷ ms) (ap is_lt (time_cmp-same m.time), not_before m.time ms later)
    ∙ filter_each (λ k. is_lt (time_cmp k.time m.time)) past (are_before m.time past earlier)
