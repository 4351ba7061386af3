-- Tests by which a trace that is written out is seen to be lawful.
use Rattle.std.proofs.Common.{◌≡◌, ℕ, ◌+◌, take, drop, ◌<◌, ◌≤◌, Bool, true, false, cond, List, [], ◌∷◌, ◌++◌, Option, Some, None, refl, sym, ap, ◌∙◌, subst, arith, rules}
use Rattle.std.specs.Prelude.{zero, suc, not, ◌&&◌, ◌||◌, nat_lt, nat_le, ◌==◌, IsTrue, is_some, slice_get, slice_index_or, if◌then◌else◌, map, filter, length}
use Rattle.std.specs.List.{AllByRecursion, list_any, list_all}
use Rattle.std.specs.List.Sorted.{IsStrictlySortedBy}
use Rattle.std.specs.Ordering.{is_lt}
use Rattle.std.specs.declared.cmp.Ordering.{Ordering}
use Rattle.std.specs.declared.cmp.Ordering.TheVariants.{Less, Equal, Greater}
use Rattle.std.proofs.lemmas.Bool.Decides.{nat_tests}
use Rattle.std.proofs.lemmas.List.Filters.{length-filter_both}
use Rattle.std.proofs.Common.{inl, inr, ◌⊎◌}
use Rattle.frp_base.specs.declared.time.Time.{Time}
use Rattle.frp_base.specs.declared.name.Name.{Name}
use Rattle.frp_base.specs.declared.val.Val.{Val}
use Rattle.frp_base.specs.Time.{time_eq, time_cmp, parent_and_number}
use Rattle.frp_base.specs.Name.{name_eq, name_cmp}
use Rattle.frp_base.proofs.Booleans.{both_true, either_true, same_test, chosen, and_true, or_more}
use Rattle.frp_expr.specs.declared.expr.Expr.{Expr}
use Rattle.frp_graph.specs.declared.prog.Line3.{Line3}
use Rattle.frp_graph.specs.declared.trace.Node.{Node}
use Rattle.frp_graph.specs.declared.trace.Moment.{Moment}
use Rattle.frp_graph.specs.declared.trace.Fact.{Fact}
use Rattle.frp_graph.specs.declared.prog.Prog.{Prog}
use Rattle.frp_graph.specs.declared.limits.Limits.{Limits}
use Rattle.frp_history.specs.declared.history.Key.{Key}
use Rattle.frp_history.specs.declared.history.Cmd.{Cmd}
use Rattle.frp_history.specs.declared.history.Cmd.TheVariants.{Join, Leave}
use Rattle.frp_history.specs.declared.history.Reply.{Reply}
use Rattle.frp_history.specs.declared.history.Reply.TheVariants.{Joined}
use Rattle.frp_history.specs.declared.history.Entry.{Entry}
use Rattle.frp_graph.specs.declared.evidence.Phase.{Phase}
use Rattle.frp_graph.specs.declared.evidence.Phase.TheVariants.{Birth, During, After}
use Rattle.frp_graph.specs.declared.trace.Sent.{Sent}
use Rattle.frp_graph.specs.TypedProg.{IsTypedProg, has_typed_lines, is_node_line, is_cell}
use Rattle.frp_graph.specs.Trace.{Sight, node_in, fact_in, post_in, moment_at, occ, sight_of, live}
use Rattle.frp_graph.specs.Equations.{MeetsEquation}
use Rattle.frp_graph.specs.Births.{build, file_plans, plans_by, plan_as}
use Rattle.frp_graph.specs.FirstValues.{IsBornAs, are_all_born}
use Rattle.frp_graph.specs.WellFormed.{has_typed_first, is_typed_fact, seen_fits, fits_cell, Allows, IsWellFormed, HasFirsts}
use Rattle.frp_graph.specs.Sound.{IsSoundAfter, KeepsLimits}
use Rattle.frp_graph.specs.Moments.{AtEach, IsMoment, IsTrace, items_to_split, live_at, is_due, is_child_due, splits_at, is_of_transaction, moments_of}
use Rattle.frp_graph.specs.Links.{links, links_from, is_linked, is_closed_chain, IsChainless}
use Rattle.frp_history.specs.History.{entry_at}
use Rattle.frp_history.specs.Sessions.{calls, calls_of, keys_of, IsSession}
use Rattle.frp_history.specs.Listeners.{Listener, key_eq, is_leave, joined_by, joined_in, IsFreeSlot}
use Rattle.frp_rows.specs.Writing.{program}
use Rattle.frp_graph.proofs.Times.{child_is}
use Rattle.frp_graph.proofs.Lists.{any_of, name_same, time_same, node_found, moment_found}
use Rattle.frp_graph.proofs.Chains.{no_chain}
use Rattle.frp_graph.proofs.Nodes.{found_named}
use Rattle.frp_graph.proofs.Order.{lt_less}

-- Nodes, by name.

-- what holds of each node of a list holds of each that is found in it
pub each_in : (P : Node → Type 0) (xs : List Node) → AllByRecursion P xs → (n : Name) (x : Node) → node_in xs n ≡ Some x → P x
each_in P [] h n x e = absurd cc
each_in P (y ∷ ys) h n x e = elim (chosen (name_eq y.name n) y x (node_in ys n) e) [ inl c ↦ subst P c.1 h.0 | inr r ↦ each_in P ys h.1 n x r.1 ]

-- the same where a test tells it
pub each_true : (q : Node → Bool) (xs : List Node) → list_all q xs ≡ true → (n : Name) (x : Node) → node_in xs n ≡ Some x → q x ≡ true
each_true q xs h n x e = (node_found q xs n x e h).1

-- what is found among the facts has one of their names
pub fact_true : (q : Name → Bool) (fs : List Fact) → list_all (λ f. q f.node) fs ≡ true → (n : Name) (v : Val) → fact_in fs n ≡ Some v → q n ≡ true
fact_true q [] h n v e = absurd cc
fact_true q (f ∷ fs) h n v e =
    let both = both_true (q f.node) (list_all (λ (g : Fact). q g.node) fs) h in
    elim (chosen (name_eq f.node n) f.value v (fact_in fs n) e) [
      | inl c ↦ subst (λ (k : Name). q k ≡ true) (name_same f.node n c.0) both.0
      | inr r ↦ fact_true q fs both.1 n v r.1
    ]

pub all_true : {A : Type 0} (q : A → Bool) (xs : List A) → list_all q xs ≡ true → AllByRecursion (λ x. IsTrue (q x)) xs
all_true q [] h = tt
all_true q (x ∷ xs) h = let both = both_true (q x) (list_all q xs) h in (both.0, all_true q xs both.1)

-- what is asked for where a test holds, and is so in a case that has been seen
pub asked : (a b : Bool) → not a || b ≡ true → a ≡ true → b ≡ true
asked true b h e = h
asked false b h e = absurd cc

pub at_build : (t : Time) (b : Bool) → not (time_eq t build) || b ≡ true → t ≡ build → b ≡ true
at_build t b h e = asked (time_eq t build) b h (subst (λ (u : Time). time_eq u build ≡ true) (sym e) refl)

-- Order.

abbrev pub is_rising : {K : Type 0} → (K → K → Ordering) → List K → Bool
is_rising c [] = true
is_rising c (x ∷ xs) = list_all (λ y. is_lt (c x y)) xs && is_rising c xs

all_less : {K : Type 0} (c : K → K → Ordering) (x : K) (xs : List K) → list_all (λ y. is_lt (c x y)) xs ≡ true → AllByRecursion (λ y. c x y ≡ Less) xs
all_less c x [] h = tt
all_less c x (y ∷ ys) h = (lt_less _ (both_true _ _ h).0, all_less c x ys (both_true _ _ h).1)

pub rises : {K : Type 0} (c : K → K → Ordering) (xs : List K) → is_rising c xs ≡ true → IsStrictlySortedBy c xs
unfolding IsStrictlySortedBy
rises c [] h = tt
rises c (x ∷ xs) h = (all_less c x xs (both_true _ _ h).0, rises c xs (both_true _ _ h).1)

-- Due times.

-- `until` says up to which times the trace goes.

-- a time that lies so has a moment
abbrev pub has_moment : (Time → Bool) → List Moment → Time → Bool
has_moment until trace t = not (until t) || is_some (moment_at trace t)

-- the first n children of a time have moments
abbrev pub has_children : (Time → Bool) → List Moment → Time → ℕ → Bool
has_children until trace u zero = true
has_children until trace u (suc n) = has_moment until trace (u ++ n ∷ []) && has_children until trace u n

abbrev pub covers : (Time → Bool) → List Sent → List Moment → Bool
covers until sends trace = has_moment until trace build
    && (list_all (λ s. has_moment until trace (s.place ∷ [])) sends
    && list_all (λ m. list_all (λ x. has_children until trace m.time (items_to_split m x.shape)) (live_at trace m.time)) trace)

abbrev pub are_due : (Time → Bool) → List Sent → List Moment → Bool
are_due until sends trace = list_all (λ m. is_due sends trace m.time && until m.time) trace

module _ (until : Time → Bool) (sends : List Sent) (trace : List Moment) where
  child_there : (u : Time) (n i : ℕ) → nat_lt i n ≡ true → has_children until trace u n ≡ true → has_moment until trace (u ++ i ∷ []) ≡ true
  child_there u zero i h k = absurd (grind (arith, nat_tests))
  child_there u (suc n) i h k =
      let parts = both_true (has_moment until trace (u ++ n ∷ [])) (has_children until trace u n) k in
      elim (before n i (grind (arith, nat_tests))) [
        | inl e ↦ subst (λ j. has_moment until trace (u ++ j ∷ []) ≡ true) (sym e) parts.0
        | inr l ↦ child_there u n i (grind (arith, nat_tests)) parts.1
      ]
    where
      before : (n i : ℕ) → i < suc n → (i ≡ n) ⊎ (i < n)
      before n i h = grind arith

  split_there : (u : Time) (i : ℕ) (o : Option Moment) → moment_at trace u ≡ o → splits_at trace u i o ≡ true
      → list_all (λ m. list_all (λ x. has_children until trace m.time (items_to_split m x.shape)) (live_at trace m.time)) trace ≡ true
      → has_moment until trace (u ++ i ∷ []) ≡ true
  split_there u i None e h k = absurd cc
  split_there u i (Some m) e h k =
      let f = moment_found (λ m. list_all (λ x. has_children until trace m.time (items_to_split m x.shape)) (live_at trace m.time)) trace u m e k in
      let all : list_all (λ (x : Node). has_children until trace u (items_to_split m x.shape)) (live_at trace u) ≡ true
      = subst (λ (t : Time). list_all (λ (x : Node). has_children until trace t (items_to_split m x.shape)) (live_at trace t) ≡ true) f.0 f.1 in
      let x = any_of (λ x. nat_lt i (items_to_split m x.shape)) (λ x. has_children until trace u (items_to_split m x.shape)) (live_at trace u) h all in
      child_there u (items_to_split m x.0.shape) i x.1.0 x.1.1

  child_due_there : (t : Time) (p : Option (Time × ℕ)) → parent_and_number t ≡ p → is_child_due trace p ≡ true
      → list_all (λ m. list_all (λ x. has_children until trace m.time (items_to_split m x.shape)) (live_at trace m.time)) trace ≡ true
      → has_moment until trace t ≡ true
  child_due_there t None e h k = absurd cc
  child_due_there t (Some p) e h k =
      subst (λ u. has_moment until trace u ≡ true) (sym (child_is t p.0 p.1 e)) (split_there p.0 p.1 (moment_at trace p.0) refl h k)

  due_there : covers until sends trace ≡ true → (t : Time) → is_due sends trace t ≡ true → has_moment until trace t ≡ true
  due_there c t h =
      let a = both_true (has_moment until trace build) (list_all (λ s. has_moment until trace (s.place ∷ [])) sends && list_all (λ m. list_all (λ x. has_children until trace m.time (items_to_split m x.shape)) (live_at trace m.time)) trace) c in
      let b = both_true (list_all (λ s. has_moment until trace (s.place ∷ [])) sends) (list_all (λ m. list_all (λ x. has_children until trace m.time (items_to_split m x.shape)) (live_at trace m.time)) trace) a.1 in
      elim (either_true (time_eq build t || list_any (λ s. time_eq (s.place ∷ []) t) sends) (is_child_due trace (parent_and_number t)) h) [
        | inl e ↦ elim (either_true (time_eq build t) (list_any (λ s. time_eq (s.place ∷ []) t) sends) e) [
          | inl z ↦ subst (λ u. has_moment until trace u ≡ true) (time_same build t z) a.0
          | inr z ↦ let s = any_of (λ s. time_eq (s.place ∷ []) t) (λ s. has_moment until trace (s.place ∷ [])) sends z b.0 in
              subst (λ u. has_moment until trace u ≡ true) (time_same (s.0.place ∷ []) t s.1.0) s.1.1
        ]
        | inr r ↦ child_due_there t (parent_and_number t) refl r b.1
      ]

  there_due : are_due until sends trace ≡ true → (t : Time) (o : Option Moment) → moment_at trace t ≡ o → is_some o ≡ true → is_due sends trace t && until t ≡ true
  there_due a t None e h = absurd cc
  there_due a t (Some m) e h =
      let f = moment_found (λ m. is_due sends trace m.time && until m.time) trace t m e a in
      subst (λ u. is_due sends trace u && until u ≡ true) f.0 f.1

  -- the moments are those that are due and lie so
  pub due_until : covers until sends trace ≡ true → are_due until sends trace ≡ true → (t : Time) → is_some (moment_at trace t) ≡ (is_due sends trace t && until t)
  due_until c a t = same_test (is_some (moment_at trace t)) (is_due sends trace t && until t) (there_due a t (moment_at trace t) refl)
      (λ h. let two = both_true (is_due sends trace t) (until t) h in asked (until t) (is_some (moment_at trace t)) (due_there c t two.0) two.1)

abbrev pub always : Time → Bool
always t = true

-- the moments are those that are due
pub due : (sends : List Sent) (trace : List Moment) → covers always sends trace ≡ true → are_due always sends trace ≡ true → (t : Time) → is_some (moment_at trace t) ≡ is_due sends trace t
due sends trace c a t = due_until always sends trace c a t ∙ and_true (is_due sends trace t)

-- Chains.

-- each link of the phase leads to a lower rank, at the moment after these
abbrev pub falls : (Name → ℕ) → List Moment → Moment → Phase → Bool
falls rank past m phase = list_all (λ x. list_all (λ n. nat_lt (rank n) (rank x.name)) (links (sight_of past m) phase x)) (live (past ++ m ∷ []))

module _ (rank : Name → ℕ) (past : List Moment) (m : Moment) where
  abbrev w : Sight
  w = sight_of past m

  link_falls : (phase : Phase) (a b : Name) (o : Option Node) → w.node a ≡ o → list_any (λ n. name_eq n b) (links_from w (post_in w) phase o) ≡ true
      → falls rank past m phase ≡ true → rank b < rank a
  link_falls phase a b None e h k = absurd cc
  link_falls phase a b (Some x) e h k =
      let f = node_found (λ x. list_all (λ n. nat_lt (rank n) (rank x.name)) (links w phase x)) (live (past ++ m ∷ [])) a x e k in
      let n = any_of (λ n. name_eq n b) (λ n. nat_lt (rank n) (rank x.name)) (links w phase x) h f.1 in
      let lt : rank n.0 < rank x.name = grind (arith, nat_tests, n.1.1) in
      subst (λ (c : Name). rank c < rank a) (name_same n.0 b n.1.0) (subst (λ (c : Name). rank n.0 < rank c) f.0 lt)

  pub phase_chainless : (phase : Phase) → falls rank past m phase ≡ true → (names : List Name) → is_closed_chain (is_linked w phase) names ≡ false
  phase_chainless phase h = no_chain (is_linked w phase) rank (λ a b l. link_falls phase a b (w.node a) refl l h)

  pub chainless : falls rank past m Birth ≡ true → falls rank past m During ≡ true → falls rank past m After ≡ true → IsChainless w
  chainless b d a Birth = phase_chainless Birth b
  chainless b d a During = phase_chainless During d
  chainless b d a After = phase_chainless After a

-- Whole traces.

-- whether all that live nodes make at the moment after these is born, and all that the file makes, at the build
abbrev pub makes_all : Prog → List Moment → Moment → Bool
makes_all prog past m = list_all (λ x. are_all_born m.born (plans_by prog (sight_of past m) x)) (live (past ++ m ∷ []))

abbrev pub builds_all : Prog → Moment → Bool
builds_all prog m = not (time_eq m.time build) || are_all_born m.born (file_plans prog)

-- What is to be shown of a moment beside its order: that the nodes born are those made, that each equation holds, and that only
-- live nodes fire.
abbrev pub Shown : Prog → List Sent → List Moment → Moment → Type 0
Shown prog sends past m =
    AllByRecursion (λ x. IsBornAs prog (sight_of past m) (plan_as prog (sight_of past m) x.name) x) m.born
    × (makes_all prog past m ≡ true)
    × (builds_all prog m ≡ true)
    × AllByRecursion (MeetsEquation prog sends (sight_of past m)) (live (past ++ m ∷ []))
    × AllByRecursion (λ f. IsTrue (is_some ((sight_of past m).node f.node))) m.fired

abbrev pub moment_rises : Moment → Bool
moment_rises m = is_rising name_cmp (map (λ x. x.name) m.born) && is_rising name_cmp (map (λ f. f.node) m.fired)

pub moments : (prog : Prog) (sends : List Sent) (past ms : List Moment) → list_all moment_rises ms ≡ true → AtEach (Shown prog sends) past ms → AtEach (IsMoment prog sends) past ms
moments prog sends past [] r h = tt
moments prog sends past (m ∷ ms) r h =
    let each = both_true (moment_rises m) (list_all moment_rises ms) r in
    let two = both_true (is_rising name_cmp (map (λ (x : Node). x.name) m.born)) (is_rising name_cmp (map (λ (f : Fact). f.node) m.fired)) each.0 in (
      record {
        born_exactly = record {
          each_is_made = h.0.0;
          each_is_born = each_true (λ x. are_all_born m.born (plans_by prog (sight_of past m) x)) (live (past ++ m ∷ [])) h.0.1;
          file_is_born = at_build m.time (are_all_born m.born (file_plans prog)) h.0.2;
        };
        equations = each_in (MeetsEquation prog sends (sight_of past m)) (live (past ++ m ∷ [])) h.0.3;
        facts_of_live = h.0.4;
        born_rise = rises name_cmp _ two.0;
        fired_rise = rises name_cmp _ two.1;
      },
      moments prog sends (past ++ m ∷ []) ms each.1 h.1,
    )

-- a trace is lawful by these tests, and by what is shown of each moment
pub is_trace : (prog : Prog) (sends : List Sent) (trace : List Moment) → is_rising time_cmp (map (λ m. m.time) trace) && list_all moment_rises trace ≡ true
    → covers always sends trace ≡ true → are_due always sends trace ≡ true → AtEach (Shown prog sends) [] trace → IsTrace prog sends trace
is_trace prog sends trace r c d h =
    let two = both_true (is_rising time_cmp (map (λ (m : Moment). m.time) trace)) (list_all moment_rises trace) r in
    record { rising = rises time_cmp _ two.0; due = due sends trace c d; moments = moments prog sends [] trace two.1 h }

-- whether values are of their types, and links fall, at each moment after these
abbrev pub is_sound : Prog → (Name → ℕ) → List Moment → Moment → Bool
is_sound prog rank past m = list_all (has_typed_first prog (sight_of past m)) m.born
    && (list_all (is_typed_fact prog (sight_of past m)) m.fired
    && (falls rank past m Birth && (falls rank past m During && falls rank past m After)))

abbrev pub are_sound : Prog → (List Moment → Name → ℕ) → List Moment → List Moment → Bool
are_sound prog rank past [] = true
are_sound prog rank past (m ∷ ms) = is_sound prog (rank past) past m && are_sound prog rank (past ++ m ∷ []) ms

is_sound_so : (prog : Prog) (rank : Name → ℕ) (past : List Moment) (m : Moment) → is_sound prog rank past m ≡ true → IsSoundAfter prog past m
is_sound_so prog rank past m h =
    let b = falls rank past m Birth in
    let d = falls rank past m During in
    let a = falls rank past m After in
    let facts = list_all (is_typed_fact prog (sight_of past m)) m.fired in
    let one = both_true (list_all (has_typed_first prog (sight_of past m)) m.born) (facts && (b && (d && a))) h in
    let two = both_true facts (b && (d && a)) one.1 in
    let three = both_true b (d && a) two.1 in
    let four = both_true d a three.1 in
    record { firsts = one.0; facts = two.0; chainless = chainless rank past m three.0 four.0 four.1 }

pub sound : (prog : Prog) (rank : List Moment → Name → ℕ) (past ms : List Moment) → are_sound prog rank past ms ≡ true → AtEach (IsSoundAfter prog) past ms
sound prog rank past [] h = tt
sound prog rank past (m ∷ ms) h =
    let each = both_true (is_sound prog (rank past) past m) (are_sound prog rank (past ++ m ∷ []) ms) h in
    (is_sound_so prog (rank past) past m each.0, sound prog rank (past ++ m ∷ []) ms each.1)

-- Sizes.

-- no transaction has more moments than the trace
few_moments : (trace : List Moment) (k : ℕ) → moments_of k trace ≤ length trace
few_moments trace k = omega (arith, length-filter_both (λ m. is_of_transaction k m.time) (λ m. not (is_of_transaction k m.time)) (λ x. refl) trace)

pub within : (limits : Limits) (trace : List Moment) → length trace ≤ limits.moments → length (live trace) ≤ limits.nodes → KeepsLimits limits trace
within limits trace m n = record { moments = λ k. omega (arith, few_moments trace k); nodes = n }

-- the same where several transactions together have more: of each moment's transaction
abbrev pub first_number : Time → ℕ
first_number [] = 0
first_number (n ∷ t) = n

abbrev pub few_each : ℕ → List Moment → Bool
few_each limit trace = list_all (λ m. nat_le (moments_of (first_number m.time) trace) limit) trace

of_first : (k : ℕ) (t : Time) → is_of_transaction k t ≡ true → first_number t ≡ k
of_first k [] h = absurd cc
of_first k (n ∷ t) h = grind (arith, nat_tests)

none_of : (k : ℕ) (ms : List Moment) → list_any (λ m. is_of_transaction k m.time) ms ≡ false → filter (λ m. is_of_transaction k m.time) ms ≡ []
none_of k [] h = refl
none_of k (m ∷ ms) h = by (is_of_transaction k m.time) h (none_of k ms) where
  by : (b : Bool) → b || list_any (λ m. is_of_transaction k m.time) ms ≡ false → (list_any (λ m. is_of_transaction k m.time) ms ≡ false → filter (λ m. is_of_transaction k m.time) ms ≡ [])
      → cond b (m ∷ filter (λ m. is_of_transaction k m.time) ms) (filter (λ m. is_of_transaction k m.time) ms) ≡ []
  by true h f = absurd cc
  by false h f = f h

few_of : (limit : ℕ) (trace : List Moment) → few_each limit trace ≡ true → (k : ℕ) (b : Bool) → list_any (λ m. is_of_transaction k m.time) trace ≡ b → moments_of k trace ≤ limit
few_of limit trace h k true e =
    let m = any_of (λ m. is_of_transaction k m.time) (λ m. nat_le (moments_of (first_number m.time) trace) limit) trace e h in
    let f = subst (λ j. nat_le (moments_of j trace) limit ≡ true) (of_first k m.0.time m.1.0) m.1.1 in
    grind (arith, nat_tests)
few_of limit trace h k false e = let z : moments_of k trace ≡ 0 = ap length (none_of k trace e) in omega arith

pub within_each : (limits : Limits) (trace : List Moment) → few_each limits.moments trace ≡ true → length (live trace) ≤ limits.nodes → KeepsLimits limits trace
within_each limits trace m n = record { moments = λ k. few_of limits.moments trace m k (list_any (λ m. is_of_transaction k m.time) trace) refl; nodes = n }

-- Slots.

abbrev pub gives_slot : ℕ → Reply → Bool
gives_slot slot (Joined key) = key.slot == slot
gives_slot slot _ = false

slot_given : (key : Key) (caller : ℕ) (cmd : Cmd) (reply : Reply) → is_some (joined_by key caller cmd reply) ≡ true → gives_slot key.slot reply ≡ true
slot_given key caller (Join node) (Joined given) h = by (key_eq given key) h refl where
  by : (b : Bool) → is_some {T = Listener} (if b then Some (record { caller = caller; node = node }) else None) ≡ true → key_eq given key ≡ b → (given.slot == key.slot) ≡ true
  by true h e = (both_true (given.slot == key.slot) (given.place == key.place) e).0
  by false h e = absurd cc
slot_given key caller _ _ h = absurd cc

joined_slot : (key : Key) (entries : List Entry) (k : ℕ) → is_some (joined_in key (slice_get entries k)) ≡ true → list_any (λ e. gives_slot key.slot e.reply) entries ≡ true
joined_slot key [] k h = absurd (let e : slice_get {X = Entry} [] k ≡ None = search rules in cc)
joined_slot key (e ∷ es) zero h = rw (slot_given key e.caller e.cmd e.reply h) refl
joined_slot key (e ∷ es) (suc k) h = or_more (gives_slot key.slot e.reply) _ (joined_slot key es k h)

held_joined : (entries : List Entry) (key : Key) (b : Bool) → is_some (if b then None else joined_in key (entry_at entries key.place)) ≡ true → is_some (joined_in key (entry_at entries key.place)) ≡ true
held_joined entries key true h = absurd cc
held_joined entries key false h = h

placed : (entries : List Entry) (key : Key) (p : ℕ) → is_some (joined_in key (entry_at entries p)) ≡ true → list_any (λ e. gives_slot key.slot e.reply) entries ≡ true
placed entries key zero h = absurd cc
placed entries key (suc k) h = joined_slot key entries k h

pub free : (entries : List Entry) (slot : ℕ) → list_any (λ e. gives_slot slot e.reply) entries ≡ false → IsFreeSlot entries slot
free entries slot h key l e =
    let t = placed entries key key.place (held_joined entries key (list_any (λ e. is_leave key e.cmd e.reply) entries) l) in
    let f : list_any (λ (r : Entry). gives_slot key.slot r.reply) entries ≡ false = rw e h in
    cc

-- Programs.

-- a program without functions, templates and combining expressions is typed where its lines are
pub typed : (codes : List Expr) (lines : List Line3) → has_typed_lines [] codes [] (program codes lines).body ≡ true → list_all is_node_line lines ≡ true → IsTypedProg (program codes lines)
typed codes lines l n = record { funs = refl; templates = refl; lines = l; nodes_only = n; joins = refl; no_param = refl; no_kept = refl; gives_nothing = refl }

-- what is seen at the moment after these is of its node's type
abbrev pub fits_at : Prog → List Moment → Moment → Node → Bool
fits_at prog past m x = fits_cell prog (sight_of past m) x x.first
    && (fits_cell prog (sight_of past m) x ((sight_of past m).pre x.name)
    && (seen_fits prog (sight_of past m) x (occ m x.name) && seen_fits prog (sight_of past m) x ((sight_of past m).above x.name)))

pub well_formed : (prog : Prog) (past : List Moment) (m : Moment) → IsTypedProg prog
    → AllByRecursion (λ x. Allows prog (sight_of past m) x.ty x.shape) (live (past ++ m ∷ [])) → list_all (fits_at prog past m) (live (past ++ m ∷ [])) ≡ true
    → list_all (λ f. is_some (node_in (live (past ++ m ∷ [])) f.node)) m.fired ≡ true → IsWellFormed prog (sight_of past m)
well_formed prog past m p s f l =
    let w = sight_of past m in
    let nodes = live (past ++ m ∷ []) in
    let first : Node → Bool = λ x. fits_cell prog w x x.first in
    let before : Node → Bool = λ x. fits_cell prog w x (w.pre x.name) in
    let now : Node → Bool = λ x. seen_fits prog w x (occ m x.name) in
    let above : Node → Bool = λ x. seen_fits prog w x (w.above x.name) in
    let one : (n : Name) (x : Node) → node_in nodes n ≡ Some x → first x && (before x && (now x && above x)) ≡ true = each_true (fits_at prog past m) nodes f in
    record {
      program = p;
      shapes = each_in (λ x. Allows prog w x.ty x.shape) nodes s;
      named = found_named nodes;
      firsts = λ n x e. (both_true (first x) (before x && (now x && above x)) (one n x e)).0;
      befores = λ n x e. (both_true (before x) (now x && above x) (both_true (first x) (before x && (now x && above x)) (one n x e)).1).0;
      occurrences = λ n x e. (both_true (now x) (above x) (both_true (before x) (now x && above x) (both_true (first x) (before x && (now x && above x)) (one n x e)).1).1).0;
      aboves = λ n x e. (both_true (now x) (above x) (both_true (before x) (now x && above x) (both_true (first x) (before x && (now x && above x)) (one n x e)).1).1).1;
      only_live = fact_true (λ n. is_some (node_in nodes n)) m.fired l;
    }

pub has_firsts : (past : List Moment) (m : Moment)
    → list_all (λ x. not (is_cell x.ty) || (is_some x.first && is_some ((sight_of past m).pre x.name))) (live (past ++ m ∷ [])) ≡ true → HasFirsts (sight_of past m)
has_firsts past m h =
    let first : Node → Bool = λ x. is_some x.first in
    let before : Node → Bool = λ x. is_some ((sight_of past m).pre x.name) in
    let one : (n : Name) (x : Node) → node_in (live (past ++ m ∷ [])) n ≡ Some x → not (is_cell x.ty) || (first x && before x) ≡ true
    = each_true (λ x. not (is_cell x.ty) || (first x && before x)) (live (past ++ m ∷ [])) h in
    record {
      first = λ n x e c. (both_true (first x) (before x) (asked (is_cell x.ty) (first x && before x) (one n x e) c)).0;
      before = λ n x e c. (both_true (first x) (before x) (asked (is_cell x.ty) (first x && before x) (one n x e) c)).1;
    }

-- Sessions.

others_none : (i : ℕ) (es : List Entry) → list_all (λ e. e.caller == 1) es ≡ true → calls_of (suc (suc i)) es ≡ []
others_none i [] h = refl
others_none i (e ∷ es) h =
    let b = both_true (e.caller == 1) (list_all (λ e. e.caller == 1) es) h in
    let c : (e.caller == suc (suc i)) ≡ false = grind (arith, nat_tests) in
    rw c (others_none i es b.1)

-- the sends of one script, by caller 1
one_script : (script : List Cmd) (es : List Entry) → list_all (λ e. e.caller == 1) es ≡ true → calls_of 1 es ≡ script
    → (i : ℕ) → calls_of (suc i) es ≡ slice_index_or (script ∷ []) i []
one_script script es h c zero = c
one_script script es h c (suc i) = others_none i es h

-- A history is a session of a file with one sender, where so many of its entries are joins, then so many sends, and the rest
-- leaves, as these tests tell.
pub session : (listens : List Name) (script : List Cmd) (entries : List Entry) (j k : ℕ)
    → entries ≡ take j entries ++ take k (drop j entries) ++ drop (j + k) entries
    → calls (take j entries) ≡ map (λ n. record { caller = 0; cmd = Join n }) listens
    → list_all (λ e. e.caller == 1) (take k (drop j entries)) ≡ true → calls_of 1 (take k (drop j entries)) ≡ script
    → calls_of 0 (take k (drop j entries)) ≡ []
    → calls (drop (j + k) entries) ≡ map (λ k. record { caller = 0; cmd = Leave k }) (keys_of (take j entries))
    → IsSession listens (script ∷ []) entries
session listens script entries j k i o c s n l = record {
  joins = take j entries;
  sends = take k (drop j entries);
  leaves = drop (j + k) entries;
  in_order = i;
  joined = o;
  sent = one_script script (take k (drop j entries)) c s;
  only_scripts = n;
  left = l;
}
