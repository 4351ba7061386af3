-- A moment that ends: what stays true of tables, and what their state is then.
use Rattle.std.proofs.Common.{◌≡◌, ℕ, ◌<◌, true, false, List, [], ◌∷◌, ◌++◌, Option, Some, None, map, take, drop, length, zero, suc, refl, sym, ap, ◌∙◌, subst, arith}
use Rattle.std.specs.Prelude.{slice_get, is_some, option_and_then, IfSome}
use Rattle.std.specs.List.{AllByRecursion}
use Rattle.std.specs.List.Sorted.{IsStrictlySortedBy}
use Rattle.std.specs.declared.cmp.Ordering.TheVariants.{Less}
use Rattle.std.proofs.lemmas.List.{length-map, take-append-drop, append-nil}
use Rattle.std.proofs.Math.Seq.{take-length}
use Rattle.frp_base.specs.declared.name.Name.{Name}
use Rattle.frp_base.specs.declared.time.Time.{Time}
use Rattle.frp_base.specs.declared.val.Val.{Val}
use Rattle.frp_base.specs.Name.{name_cmp}
use Rattle.frp_base.specs.Time.{time_cmp}
use Rattle.frp_base.proofs.Booleans.{both_true}
use Rattle.frp_base.proofs.OrderLemmas.{time_cmp-transitive}
use Rattle.frp_graph.specs.declared.trace.Node.{Node}
use Rattle.frp_graph.specs.declared.trace.Fact.{Fact}
use Rattle.frp_graph.specs.declared.trace.Moment.{Moment}
use Rattle.frp_graph.specs.Trace.{node_in, node_first, fact_in, or_else, stepped, live, pre_from, value_at, value_from, value_after}
use Rattle.frp_graph.specs.Links.{are_distinct}
use Rattle.frp_graph.proofs.Before.{live_append}
use Rattle.frp_graph.proofs.Nodes.{found_joined}
use Rattle.frp_store.specs.declared.change.Change.{Change}
use Rattle.frp_store.specs.declared.edges.Edges.{Edges}
use Rattle.frp_store.specs.declared.held.Held.{Held}
use Rattle.frp_store.specs.declared.held.Step.{Step}
use Rattle.frp_store.specs.Items.{last_of}
use Rattle.frp_store.specs.State.{names, last_moment, time_by, pre_in, above_in}
use Rattle.frp_store.specs.Calls.{IsAfter, IsMomentOf, ended}
use Rattle.frp_store.specs.Lists.{Lists, nodes_of, targets_of, state_in}
use Rattle.frp_store.specs.Undo.{undo, reopened}
use Rattle.frp_store.specs.Closing.{occ_of, closed, closed_all, HasClosed, ended_lists}
use Rattle.frp_store.specs.Kept.{IsSound, HasRisingFacts, AreKept}
use Rattle.frp_store.proofs.Items.{last_pushed, snoc}
use Rattle.frp_store.proofs.Setting.{get_map_back}
use Rattle.frp_store.proofs.Keeping.{pre_by, kept_beside}
use Rattle.frp_store.proofs.Reopening.{occ_named, ended_back}
use Rattle.frp_store.proofs.Timing.{times}

-- A moment more in a trace.

live_pushed : (past : List Moment) (m : Moment) → live (past ++ m ∷ []) ≡ live past ++ m.born
live_pushed past m = live_append past (m ∷ []) ∙ ap (λ xs. live past ++ xs) (append-nil m.born)

value_pushed : (v : Option Val) (past : List Moment) (m : Moment) (n : Name) → value_from v (past ++ m ∷ []) n ≡ value_at (value_from v past n) m n
value_pushed v [] m n = refl
value_pushed v (p ∷ past) m n = value_pushed (value_at v p n) past m n

sorted_pushed : (ts : List Time) (t : Time) → IsStrictlySortedBy time_cmp ts → AllByRecursion (λ u. time_cmp u t ≡ Less) ts → IsStrictlySortedBy time_cmp (ts ++ t ∷ [])
unfolding IsStrictlySortedBy
sorted_pushed [] t s a = (tt, tt)
sorted_pushed (u ∷ ts) t s a = (more ts s.0, sorted_pushed ts t s.1 a.1) where
  more : (us : List Time) → AllByRecursion (λ v. time_cmp u v ≡ Less) us → AllByRecursion (λ v. time_cmp u v ≡ Less) (us ++ t ∷ [])
  more [] h = (a.0, tt)
  more (v ∷ us) h = (h.0, more us h.1)

all_before : (ts : List Time) (l t : Time) → IsStrictlySortedBy time_cmp (ts ++ l ∷ []) → time_cmp l t ≡ Less → AllByRecursion (λ u. time_cmp u t ≡ Less) (ts ++ l ∷ [])
unfolding IsStrictlySortedBy
all_before [] l t s h = (h, tt)
all_before (u ∷ ts) l t s h = (time_cmp-transitive u l t (last_of_all ts s.0) h, all_before ts l t s.1 h) where
  last_of_all : (us : List Time) → AllByRecursion (λ v. time_cmp u v ≡ Less) (us ++ l ∷ []) → time_cmp u l ≡ Less
  last_of_all [] a = a.0
  last_of_all (v ∷ us) a = last_of_all us a.1

times_pushed : (past : List Moment) (m : Moment) → times (past ++ m ∷ []) ≡ times past ++ m.time ∷ []
times_pushed [] m = refl
times_pushed (p ∷ past) m = ap (λ ts. p.time ∷ ts) (times_pushed past m)

rising_pushed : (past : List Moment) (m : Moment) → IsStrictlySortedBy time_cmp (times past) → IsAfter m.time past → IsStrictlySortedBy time_cmp (times (past ++ m ∷ []))
unfolding IsStrictlySortedBy
rising_pushed [] m s a = (tt, tt)
rising_pushed (p ∷ past) m s a =
    let cut = snoc (p ∷ past) (omega arith) in
    let last : last_moment (p ∷ past) ≡ Some cut.1 = ap last_of cut.2 ∙ last_pushed cut.0 cut.1 in
    let less : time_cmp cut.1.time m.time ≡ Less = subst (λ o. IfSome o (λ (l : Moment). time_cmp l.time m.time ≡ Less)) last a in
    let split : times (p ∷ past) ≡ times cut.0 ++ cut.1.time ∷ [] = ap times cut.2 ∙ times_pushed cut.0 cut.1 in
    subst (IsStrictlySortedBy time_cmp) (sym (times_pushed (p ∷ past) m))
    (sorted_pushed (times (p ∷ past)) m.time s
    (subst (AllByRecursion (λ u. time_cmp u m.time ≡ Less)) (sym split)
    (all_before (times cut.0) cut.1.time m.time (subst (IsStrictlySortedBy time_cmp) split s) less)))

all_more : {A : Type 0} (P : A → Type 0) (xs : List A) (x : A) → AllByRecursion P xs → P x → AllByRecursion P (xs ++ x ∷ [])
all_more P [] x a h = (h, tt)
all_more P (y ∷ xs) x a h = (a.0, all_more P xs x a.1 h)

-- What was closed.

closed_nodes : (held : List Held) → nodes_of (closed_all held) ≡ nodes_of held
closed_nodes [] = refl
closed_nodes (h ∷ held) = ap (λ xs. h.node ∷ xs) (closed_nodes held)

closed_targets : (held : List Held) → targets_of (closed_all held) ≡ targets_of held
closed_targets [] = refl
closed_targets (h ∷ held) = ap (λ ts. h.target ∷ ts) (closed_targets held)

closed_occs : (held : List Held) → map (λ (h : Held). h.occ) (closed_all held) ≡ map (λ _. None) (nodes_of held)
closed_occs [] = refl
closed_occs (h ∷ held) = ap (λ os. None ∷ os) (closed_occs held)

drop_all : (xs : List Node) (n : ℕ) → n ≡ length xs → drop n xs ≡ []
drop_all [] zero e = refl
drop_all [] (suc n) e = refl
drop_all (x ∷ xs) zero e = absurd (omega arith)
drop_all (x ∷ xs) (suc n) e = drop_all xs n (omega arith)

-- Births.

pub distinct_drop : (xs : List Node) (n : ℕ) → are_distinct (names xs) ≡ true → are_distinct (names (drop n xs)) ≡ true
distinct_drop xs zero d = d
distinct_drop [] (suc n) d = refl
distinct_drop (x ∷ xs) (suc n) d = distinct_drop xs n (both_true _ _ d).1

pub drop_at : (xs : List Node) (i : ℕ) (x : Node) → slice_get xs i ≡ Some x → drop i xs ≡ x ∷ drop (suc i) xs
drop_at [] i x e = absurd cc
drop_at (y ∷ xs) zero x e = let same : y ≡ x = cc in ap (λ z. z ∷ xs) same
drop_at (y ∷ xs) (suc i) x e = drop_at xs i x e

-- A moment that is made of these lists, whose occurrences were taken as these facts and steps.
pub record IsEnd (l : Lists) (held : List Held) (m : Moment) (fs : List Fact) (ss : List Step) : Type 0 where
  pub closed : HasClosed l.held held fs ss
  pub time : l.begun ≡ Some m.time
  pub rising_births : IsStrictlySortedBy name_cmp (names m.born)
  pub rising_facts : IsStrictlySortedBy name_cmp (map (λ (f : Fact). f.node) m.fired)
  pub born : (n : Name) → node_in m.born n ≡ node_in (drop l.first (nodes_of l.held)) n
  pub fired : (n : Name) → fact_in m.fired n ≡ fact_in fs n

module _ (l : Lists) (held : List Held) (m : Moment) (fs : List Fact) (ss : List Step) (k : IsSound l) (e : IsEnd l held m fs ss) where
  same_nodes : nodes_of held ≡ nodes_of l.held
  same_nodes = ap nodes_of e.closed.held ∙ closed_nodes l.held

  same_targets : targets_of held ≡ targets_of l.held
  same_targets = ap targets_of e.closed.held ∙ closed_targets l.held

  many : length held ≡ length l.held
  many = ap length e.closed.held ∙ length-map l.held closed

  as_many : length held ≡ length (nodes_of held)
  as_many = sym (length-map held (λ (h : Held). h.node))

  -- the live nodes
  all_live : (n : Name) → node_in (live (l.past ++ m ∷ [])) n ≡ node_in (nodes_of l.held) n
  all_live n =
      ap (λ xs. node_in xs n) (live_pushed l.past m) ∙ found_joined (live l.past) m.born n
      ∙ ap (λ o. or_else o (node_in m.born n)) (k.shown n) ∙ ap (or_else (node_in (take l.first (nodes_of l.held)) n)) (e.born n)
      ∙ sym (found_joined (take l.first (nodes_of l.held)) (drop l.first (nodes_of l.held)) n)
      ∙ ap (λ xs. node_in xs n) (take-append-drop l.first (nodes_of l.held))

  -- a cell's value before the moment
  before_it : (n : Name) → pre_from (value_after l.past n) m n ≡ pre_in (state_in l) n
  before_it n = ap (λ o. or_else (option_and_then node_first o) (value_after l.past n)) (e.born n)

  occ_at : (n : Name) → fact_in m.fired n ≡ occ_of l.held n
  occ_at n = e.fired n ∙ e.closed.facts n

  -- and after it
  after_it : (n : Name) → pre_by (l.past ++ m ∷ []) (length held) (nodes_of held) n ≡ stepped (pre_in (state_in l) n) (occ_of l.held n)
  after_it n =
      ap (λ xs. or_else (option_and_then node_first (node_in xs n)) (value_after (l.past ++ m ∷ []) n)) (drop_all (nodes_of held) (length held) as_many)
      ∙ value_pushed None l.past m n ∙ ap (λ o. stepped o (fact_in m.fired n)) (before_it n) ∙ ap (stepped (pre_in (state_in l) n)) (occ_at n)

  steps : (p : ℕ) (h : Held) → slice_get held p ≡ Some h → h.before ≡ pre_by (l.past ++ m ∷ []) (length held) (nodes_of held) h.node.name
  steps p h at_p =
      let g = get_map_back closed l.held p h (ap (λ hs. slice_get hs p) (sym e.closed.held) ∙ at_p) in
      let n = g.0.node.name in
      ap (λ (z : Held). z.before) (sym g.2) ∙ ap (λ b. stepped b g.0.occ) (k.before p g.0 g.1)
      ∙ ap (stepped (pre_in (state_in l) n)) (sym (occ_named l.held p g.0 k.distinct g.1)) ∙ sym (after_it n)
      ∙ ap (λ (z : Held). pre_by (l.past ++ m ∷ []) (length held) (nodes_of held) z.node.name) g.2

  pub ended_sound : IsSound (ended_lists m (record l { held = held }))
  ended_sound = record {
    first = omega arith;
    idle = λ _. refl;
    quiet = λ _. refl;
    listed = λ p h at_p i.
        let g = get_map_back closed l.held p h (ap (λ hs. slice_get hs p) (sym e.closed.held) ∙ at_p) in
        let none : is_some h.occ ≡ false = ap (λ (z : Held). is_some z.occ) (sym g.2) in
        absurd cc;
    inside = tt;
    before = steps;
    aims = λ p h at_p.
        let g = get_map_back closed l.held p h (ap (λ hs. slice_get hs p) (sym e.closed.held) ∙ at_p) in
        subst (λ (z : Held). IfSome z.target (λ q. q < length held)) g.2 (subst (λ n. IfSome g.0.target (λ q. q < n)) (sym many) (k.aims p g.0 g.1));
    distinct = ap (λ ns. are_distinct (names ns)) same_nodes ∙ k.distinct;
    rising = rising_pushed l.past m k.rising (subst (λ b. IfSome b (λ t. IsAfter t l.past)) e.time k.later);
    facts = all_more HasRisingFacts l.past m k.facts e.rising_facts;
    later = tt;
    shown = λ n. all_live n ∙ ap (λ xs. node_in xs n) (sym same_nodes) ∙ ap (λ xs. node_in xs n) (sym (ap (λ c. take c (nodes_of held)) as_many ∙ take-length (nodes_of held)));
    above = refl;
  }

  pub ended_shows : IsMomentOf (state_in l) m
  ended_shows = record {
    time = e.time;
    rising_births = e.rising_births;
    rising_facts = e.rising_facts;
    born = e.born;
    fired = occ_at;
    shown = record {
      time = ap (λ b. time_by b (last_moment l.past)) e.time;
      node = λ n. sym (all_live n);
      occ = λ n. sym (occ_at n);
      pre = λ n. sym (before_it n);
      above = λ n. ap (λ b. above_in b l.past n) e.time;
    };
  }

  pub ended_state : state_in (ended_lists m (record l { held = held })) ≡ ended m (state_in l)
  ended_state =
      let p = l.past ++ m ∷ [] in
      ap (λ f. record { past = p; begun = None; first = f; nodes = nodes_of held; occs = map (λ (h : Held). h.occ) held; targets = targets_of held })
      (as_many ∙ ap length same_nodes)
      ∙ ap (λ xs. record { past = p; begun = None; first = length (nodes_of l.held); nodes = xs; occs = map (λ (h : Held). h.occ) held; targets = targets_of held }) same_nodes
      ∙ ap (λ os. record { past = p; begun = None; first = length (nodes_of l.held); nodes = nodes_of l.held; occs = os; targets = targets_of held })
      (ap (map (λ (h : Held). h.occ)) e.closed.held ∙ closed_occs l.held)
      ∙ ap (λ ts. record { past = p; begun = None; first = length (nodes_of l.held); nodes = nodes_of l.held; occs = map (λ _. None) (nodes_of l.held); targets = ts }) same_targets

  pub ended_undone : (fired : List ℕ) (steps : List Step) → fired ≡ l.fired → steps ≡ ss
      → reopened (last_moment (l.past ++ m ∷ [])) fired steps l.above l.first (ended_lists m (record l { held = held })) ≡ l
  ended_undone fired steps f s =
      ap (λ o. reopened o fired steps l.above l.first (ended_lists m (record l { held = held }))) (last_pushed l.past m)
      ∙ ap (λ ps. reopened (Some m) ps steps l.above l.first (ended_lists m (record l { held = held }))) f
      ∙ ap (λ zs. reopened (Some m) l.fired zs l.above l.first (ended_lists m (record l { held = held }))) s
      ∙ ended_back l m held fs ss k.distinct e.time e.closed e.fired

  -- with the change that undoes it
  pub ended_kept : (cs more : List Change) (c : Change) (edges : Edges) → more ≡ cs ++ c ∷ [] → AreKept cs l edges → undo c (ended_lists m (record l { held = held })) ≡ l
      → AreKept more (ended_lists m (record l { held = held })) edges
  ended_kept cs more c edges g a u =
      kept_beside cs more c l (ended_lists m (record l { held = held })) edges g a u ended_sound same_nodes same_targets
