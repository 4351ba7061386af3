-- A core stays one as entries are added.
use Rattle.std.proofs.Common.{◌≡◌, ℕ, ◌+◌, ◌<◌, ◌≤◌, suc, zero, Bool, true, false, List, [], ◌∷◌, ◌++◌, cond, map, length, drop, Option, Some, None, refl, sym, ap, ◌∙◌, subst, arith, inl, inr}
use Rattle.std.specs.Prelude.{Result, Ok, Err, OnErr, is_ok, MatchOption, slice_get, IsSomeAnd, is_some, ◌==◌, if◌then◌else◌}
use Rattle.std.specs.List.{AllByRecursion, list_any, list_all}
use Rattle.std.proofs.lemmas.Bool.{cases_Bool}
use Rattle.std.proofs.lemmas.Bool.Decides.{nat_tests}
use Rattle.std.proofs.lemmas.List.{append-nil, map-append}
use Rattle.std.proofs.lemmas.List.Elements.{filter-append}
use Rattle.frp_base.specs.declared.name.Name.{Name}
use Rattle.frp_base.specs.Time.{time_eq}
use Rattle.frp_base.proofs.Booleans.{both_true, chosen}
use Rattle.frp_base.proofs.Lists.{all_follow, all_both}
use Rattle.frp_graph.specs.declared.prog.Prog.{Prog}
use Rattle.frp_graph.specs.declared.trace.Node.{Node}
use Rattle.frp_graph.specs.declared.trace.Fact.{Fact}
use Rattle.frp_graph.specs.declared.trace.Moment.{Moment}
use Rattle.frp_graph.specs.declared.trace.Sent.{Sent}
use Rattle.frp_graph.specs.Trace.{Sight, live, node_in, sight_of}
use Rattle.frp_graph.specs.Births.{build, file_plans}
use Rattle.frp_graph.specs.FirstValues.{AreBorn}
use Rattle.frp_graph.specs.Moments.{is_of_transaction, moments_of, transaction, IsMoment, IsTrace, AtEach}
use Rattle.frp_graph.specs.Sends.{sent_in}
use Rattle.frp_graph.specs.WellFormed.{seen_fits, has_typed_first, is_typed_fact}
use Rattle.frp_graph.specs.Sound.{IsSoundAfter, KeepsLimits}
use Rattle.frp_graph.specs.TypedProg.{IsTypedProg}
use Rattle.frp_graph.specs.Limits.{program_limits}
use Rattle.frp_graph.proofs.Each.{each_more}
use Rattle.frp_graph.proofs.Nodes.{each_named}
use Rattle.frp_graph.proofs.Before.{filter_none, live_append}
use Rattle.frp_graph.proofs.Sending.{NotAt, sent_elsewhere, sent_alone, moments_moved}
use Rattle.frp_graph.proofs.FileBirths.{file_births, no_births}
use Rattle.frp_history.specs.declared.history.Key.{Key}
use Rattle.frp_history.specs.declared.history.Delivered.{Delivered}
use Rattle.frp_history.specs.declared.history.Cmd.{Cmd}
use Rattle.frp_history.specs.declared.history.Cmd.TheVariants.{Send, Join, Take}
use Rattle.frp_history.specs.declared.history.No.{No}
use Rattle.frp_history.specs.declared.history.Reply.{Reply}
use Rattle.frp_history.specs.declared.history.Reply.TheVariants.{Accepted, Refused, Joined, Given, Left}
use Rattle.frp_history.specs.declared.history.Entry.{Entry}
use Rattle.frp_history.specs.History.{sends_of, entry_at}
use Rattle.frp_history.specs.Windows.{window}
use Rattle.frp_history.specs.Listeners.{Listener, key_eq, joined_by, is_leave, listener, IsFreeSlot, items_taken, taken_by, taken_count, rest_of, rest}
use Rattle.frp_history.specs.Legal.{no_sink, no_sends, no_node, no_listener, RefusedOr, IsNewKey, IsLegal}
use Rattle.frp_history.proofs.Sendings.{sends_of_more, sends_before}
use Rattle.frp_history.proofs.Legals.{legal_after}
use Rattle.frp_core.specs.Small.{is_built, AreSmallFrom}
use Rattle.frp_core.specs.Nodes.{line_nodes}
use Rattle.frp_core.specs.Engine.{sent_to, AreFacts}
use Rattle.frp_core.specs.Core.{State, times_of, IsSingle, IsPlain, IsPlainEntry, IsCore, IsQuiet, HasRoom, with_entry, with_moment}
use Rattle.frp_core.proofs.Times.{IsBefore, at_place, none_sent, times_before, other_times, all_mapped}
use Rattle.frp_core.proofs.Settling.{settled_length, one_sent}
use Rattle.frp_core.proofs.Lines.{born, few_nodes}
use Rattle.frp_core.proofs.NewMoment.{nodes_rise, new_moment}
use Rattle.frp_core.proofs.Chainless.{chainless, no_execute}
use Rattle.frp_core.proofs.TypedFacts.{sent_fits, typed_facts}
use Rattle.frp_core.proofs.WellTyped.{nodes_right}
use Rattle.frp_core.proofs.Traces.{is_trace}
use Rattle.frp_core.proofs.Held.{IsJoin, held_join, entry_bound}

begun_more : (P : Moment → Type 0) (ms : List Moment) (m : Moment) → IsSomeAnd (slice_get ms 0) P → IsSomeAnd (slice_get (ms ++ m ∷ []) 0) P
begun_more P [] m h = absurd h
begun_more P (k ∷ ms) m h = h

-- Plain replies.

plain_at : (es : List Entry) (i : ℕ) (e : Entry) → AllByRecursion IsPlainEntry es → slice_get es i ≡ Some e → IsPlain e.reply
plain_at [] zero e h q = absurd (cc)
plain_at [] (suc i) e h q = absurd (cc)
plain_at (d ∷ es) zero e h q = let p : d ≡ e = cc in subst (λ (x : Entry). IsPlain x.reply) p h.0.1
plain_at (d ∷ es) (suc i) e h q = plain_at es i e h.1 q

plain_of : (es : List Entry) (p : ℕ) (e : Entry) → AllByRecursion IsPlainEntry es → entry_at es p ≡ Some e → IsPlain e.reply
plain_of es zero e h q = absurd (cc)
plain_of es (suc p) e h q = plain_at es p e h q

-- the slot of a listener that joined is its place
slot_of : (key : Key) (caller : ℕ) (c : Cmd) (r : Reply) (l : Listener) → joined_by key caller c r ≡ Some l → IsPlain r → key.slot ≡ key.place
slot_of key caller (Join node) (Joined given) l j h = elim (chosen (key_eq given key) (record { caller = caller; node = node }) l None j) [
  | inl e ↦
      let q = both_true (given.slot == key.slot) (given.place == key.place) e.0 in
      let a : (given.slot == key.slot) ≡ true = q.0 in
      let b : (given.place == key.place) ≡ true = q.1 in
      let s : given.slot ≡ key.slot = grind (arith, nat_tests) in
      let p : given.place ≡ key.place = grind (arith, nat_tests) in
      sym s ∙ h ∙ p
  | inr e ↦ absurd cc
]
slot_of key caller _ _ l j h = absurd cc

-- the slot of the next place is free
pub free_slot : (es : List Entry) → AllByRecursion IsPlainEntry es → IsFreeSlot es (length es + 1)
free_slot es plain = λ key some same. by key (listener es key) refl some same where
  by : (key : Key) (o : Option Listener) → listener es key ≡ o → is_some o ≡ true → key.slot ≡ length es + 1 → ⊥
  by key None q some same = absurd cc
  by key (Some l) q some same =
      let j : IsJoin es key l = held_join es key (list_any (λ e. is_leave key e.cmd e.reply) es) l q in
      let s : key.slot ≡ key.place = slot_of key j.entry.caller j.entry.cmd j.entry.reply l j.joined (plain_of es key.place j.entry plain j.at) in
      let b : key.place ≤ length es = entry_bound es key.place j.entry j.at in
      omega arith

-- nothing was taken
given_zero : (key : Key) (c : Cmd) (r : Reply) → IsPlain r → taken_by key c r ≡ 0
given_zero key (Take k max) r h = by (key_eq k key) r h where
  by : (b : Bool) (r : Reply) → IsPlain r → (if b then length (items_taken r) else 0) ≡ 0
  by false r h = refl
  by true (Given items) h = absurd h
  by true _ h = refl
given_zero key _ r h = refl

none_given : (es : List Entry) (key : Key) → AllByRecursion IsPlainEntry es → taken_count es key ≡ 0
none_given [] key h = refl
none_given (e ∷ es) key h = λ i. given_zero key e.cmd e.reply h.0.1 i + none_given es key h.1 i

-- so all of a window is left for a listener
whole_window : (trace : List Moment) (es : List Entry) (key : Key) (l : Listener) → AllByRecursion IsPlainEntry es → listener es key ≡ Some l
    → window trace l.node key.place ≡ rest trace es key
whole_window trace es key l plain h =
    ap (λ (n : ℕ). drop n (window trace l.node key.place)) (sym (none_given es key plain)) ∙ ap (rest_of trace es key) (sym h)

-- Replies that are not refusals.

-- the reply to a join of a live node
pub joins : (c : State) → IsCore c → (o : Option Node) (x : Node) (place : ℕ) → o ≡ Some x → place ≡ length c.entries + 1
    → RefusedOr (no_node o) (IsNewKey c.entries (length c.entries + 1)) (Joined (record { slot = place; place = place }))
joins c core o x place e q =
    rw (e, q) (refl, free_slot c.entries core.plain)

own_listener : (caller : ℕ) (node : Name) → no_listener caller (Some (record { caller = caller; node = node })) ≡ None
own_listener caller node = let e : (caller == caller) ≡ true = grind (arith, nat_tests) in rw e refl

not_refused : (o : Option No) (P : Reply → Type 0) (r : Reply) → o ≡ None → P r → RefusedOr o P r
not_refused None P r e p = p
not_refused (Some why) P r e p = absurd cc

one_taken : (prog : Prog) (node : Name → Option Node) (f : Fact) → no_sink prog node f.value (node f.node) ≡ None → no_sends prog node (f ∷ []) ≡ None
one_taken prog node f h = rw h refl

pub refused : (o : Option No) (P : Reply → Type 0) (why : No) → o ≡ Some why → RefusedOr o P (Refused why)
refused None P why e = absurd cc
refused (Some found) P why e = let same : found ≡ why = cc in ap (λ n. Refused n) (sym same)

-- no group is among plain entries
no_groups : (es : List Entry) → AllByRecursion IsPlainEntry es → AllByRecursion (λ e. IsSingle e.cmd) es
no_groups = all_follow IsPlainEntry (λ e. IsSingle e.cmd) (λ e h. h.0)

module _ (c : State) (core : IsCore c) (room : HasRoom c) where
  abbrev pub here : ℕ
  here = length c.entries + 1

  single : AllByRecursion (λ e. IsSingle e.cmd) c.entries
  single = no_groups c.entries core.plain

  times_here : AllByRecursion (IsBefore here) (map (λ m. m.time) c.trace)
  times_here = subst (AllByRecursion (IsBefore here)) (sym core.times) (times_before c.entries here single (omega arith))

  moments_here : AllByRecursion (λ m. IsBefore here m.time) c.trace
  moments_here = all_mapped (λ m. m.time) (IsBefore here) c.trace times_here

  not_sent : NotAt (here ∷ []) (sends_of c.entries)
  not_sent = all_follow (λ r. r.place < here) _ (λ r l. let p : r.place < here = l in let e : (here == r.place) ≡ false = grind (arith, nat_tests) in rw e refl) (sends_of c.entries) (sends_before c.entries)

  -- An entry that sends nothing.
  module _ (e : Entry) (q : IsQuiet c e) where
    same_sends : sends_of (c.entries ++ e ∷ []) ≡ sends_of c.entries
    same_sends = sends_of_more c.entries e ∙ ap (λ xs. sends_of c.entries ++ xs) q.unsent ∙ append-nil (sends_of c.entries)

    more_plain : AllByRecursion IsPlainEntry (c.entries ++ e ∷ [])
    more_plain = all_both IsPlainEntry c.entries (e ∷ []) core.plain (q.plain, tt)

    same_times : map (λ m. m.time) c.trace ≡ times_of (c.entries ++ e ∷ [])
    same_times = core.times ∙ ap (λ ss. build ∷ map at_place ss) (sym same_sends)

    quiet_legal : IsLegal c.prog program_limits (c.entries ++ e ∷ []) c.trace
    quiet_legal = subst (IsLegal c.prog program_limits (c.entries ++ e ∷ [])) (append-nil c.trace)
        (legal_after c.prog program_limits c.entries e c.trace [] core.legal tt
        (subst (IsTrace c.prog (sends_of (c.entries ++ e ∷ []))) (sym (append-nil c.trace))
        (is_trace c.trace core.small c.prog (c.entries ++ e ∷ []) (no_groups (c.entries ++ e ∷ []) more_plain) same_times
        (subst (λ ss. AtEach (IsMoment c.prog ss) [] c.trace) (sym same_sends) core.legal.is_trace.moments)))
        (subst (AtEach (IsSoundAfter c.prog) []) (sym (append-nil c.trace)) core.legal.sound)
        (subst (KeepsLimits program_limits) (sym (append-nil c.trace)) core.legal.within)
        (omega arith) q.reply)

    pub quiet_core : IsCore (with_entry c e)
    quiet_core = record { typed = core.typed; built = core.built; nodes = core.nodes; small = core.small; begun = core.begun; times = same_times; legal = quiet_legal; plain = more_plain }

  -- A send.
  module _ (caller : ℕ) (f : Fact) (fired : List Fact) (facts : AreFacts c.prog (live c.trace) here (Some f) fired)
      (sink : no_sink c.prog (node_in (live c.trace)) f.value (node_in (live c.trace) f.node) ≡ None) where
    abbrev m : Moment
    m = record { time = here ∷ []; born = []; fired = fired }

    abbrev e : Entry
    e = record { caller = caller; cmd = Send f.node f.value; reply = Accepted 1 }

    abbrev s : Sent
    s = record { place = here; part = 0; sink = f.node; value = f.value }

    abbrev seen : Sight
    seen = sight_of c.trace m

    more_sends : sends_of (c.entries ++ e ∷ []) ≡ sends_of c.entries ++ s ∷ []
    more_sends = sends_of_more c.entries e

    live_stays : live (c.trace ++ m ∷ []) ≡ live c.trace
    live_stays = live_append c.trace (m ∷ []) ∙ append-nil (live c.trace)

    small_after : AreSmallFrom 0 (live (c.trace ++ m ∷ []))
    small_after = subst (AreSmallFrom 0) (sym live_stays) core.small

    -- what is seen at the moment finds the live nodes
    finds : (n : Name) → seen.node n ≡ node_in (live c.trace) n
    finds n = ap (λ (xs : List Node). node_in xs n) live_stays

    more_times : map (λ m. m.time) (c.trace ++ m ∷ []) ≡ times_of (c.entries ++ e ∷ [])
    more_times = map-append (λ m. m.time) c.trace (m ∷ []) ∙ ap (λ ts. ts ++ (here ∷ []) ∷ []) core.times
        ∙ ap (λ ts. build ∷ ts) (sym (map-append at_place (sends_of c.entries) (s ∷ []))) ∙ ap (λ ss. build ∷ map at_place ss) (sym more_sends)

    not_build : time_eq (here ∷ []) build ≡ false
    not_build = let z : (here == 0) ≡ false = grind (arith, nat_tests) in rw z refl

    old_moments : AtEach (IsMoment c.prog (sends_of c.entries ++ s ∷ [])) [] c.trace
    old_moments = moments_moved c.prog (sends_of c.entries) (sends_of c.entries ++ s ∷ []) (λ k. time_eq k.time (here ∷ []) ≡ false)
        (λ k d n. sym (sent_elsewhere c.prog (sends_of c.entries) (s ∷ []) k.time n (d, tt))) [] c.trace (other_times here c.trace moments_here) core.legal.is_trace.moments

    last_moment : IsMoment c.prog (sends_of c.entries ++ s ∷ []) c.trace m
    last_moment = new_moment c.prog (live c.trace) (sends_of c.entries ++ s ∷ []) here (Some f) c.trace m facts.occs refl facts.fired core.small
        (settled_length c.prog here (Some f) [] (live c.trace) facts.occs facts.settled)
        (λ n. sent_alone c.prog (sends_of c.entries) (s ∷ []) (here ∷ []) n not_sent)
        facts.settled (no_births c.prog seen (no_execute seen (live c.trace) finds core.small) not_build) (nodes_rise 0 [] tt) live_stays

    -- what is sent there is the one value
    one_there : (n : Name) → sent_in c.prog (sends_of c.entries ++ s ∷ []) (here ∷ []) n ≡ sent_to (Some f) n
    one_there n = sent_alone c.prog (sends_of c.entries) (s ∷ []) (here ∷ []) n not_sent ∙ one_sent c.prog here (Some f) n

    fired_typed : list_all (is_typed_fact c.prog seen) fired ≡ true
    fired_typed =
        let same : (n : Name) → seen.node n ≡ node_in (line_nodes [] c.prog.body.lines) n = λ n. finds n ∙ ap (λ (xs : List Node). node_in xs n) core.nodes in
        let takes : no_sink c.prog seen.node f.value (seen.node f.node) ≡ None = ap (λ (xs : List Node). no_sink c.prog (node_in xs) f.value (node_in xs f.node)) live_stays ∙ sink in
        typed_facts c.prog core.typed core.built (sends_of c.entries ++ s ∷ []) seen same (λ n. refl)
        (λ n x e. subst (λ o. seen_fits c.prog seen x o ≡ true) (sym (one_there x.name)) (sent_fits c.prog seen f takes x (ap seen.node (each_named seen (live c.trace) finds n x e) ∙ e)))
        last_moment.equations fired (λ n. refl) last_moment.facts_of_live last_moment.fired_rise

    last_sound : IsSoundAfter c.prog c.trace m
    last_sound = record { firsts = refl; facts = fired_typed; chainless = chainless seen (live c.trace) finds core.small }

    one_here : moments_of here (m ∷ []) ≡ 1
    one_here = let h : (here == here) ≡ true = grind (arith, nat_tests) in rw h refl

    none_here : transaction here c.trace ≡ []
    none_here = filter_none (λ k. is_of_transaction here k.time) c.trace (all_follow _ _ (λ k b. ap (is_of_transaction here) b.1.0 ∙ below b.0 here b.1.1) c.trace moments_here) where
      below : (a b : ℕ) → a < b → (a == b) ≡ false
      below a b h = grind (arith, nat_tests)

    moments_joined : (k : ℕ) → moments_of k (c.trace ++ m ∷ []) ≡ length (transaction k c.trace ++ transaction k (m ∷ []))
    moments_joined k = ap length (filter-append (λ j. is_of_transaction k j.time) c.trace (m ∷ []))

    few_moments : (k : ℕ) → moments_of k (c.trace ++ m ∷ []) ≤ program_limits.moments
    few_moments k = elim (cases_Bool (here == k)) [
      | inl e ↦
          let same : here ≡ k = grind (arith, nat_tests) in
          let one : moments_of here (c.trace ++ m ∷ []) ≡ 1 = moments_joined here ∙ ap (λ ms. length (ms ++ transaction here (m ∷ []))) none_here ∙ one_here in
          subst (λ (k : ℕ). moments_of k (c.trace ++ m ∷ []) ≤ program_limits.moments) same (omega arith)
      | inr e ↦
          let none : transaction k (m ∷ []) ≡ [] = rw e refl in
          let old : moments_of k (c.trace ++ m ∷ []) ≡ moments_of k c.trace = moments_joined k ∙ ap (λ ms. length (transaction k c.trace ++ ms)) none ∙ ap length (append-nil (transaction k c.trace)) in
          let few : moments_of k c.trace ≤ program_limits.moments = core.legal.within.moments k in
          omega arith
    ]

    keeps_limits : KeepsLimits program_limits (c.trace ++ m ∷ [])
    keeps_limits = record { moments = few_moments; nodes = subst (λ (nodes : List Node). length nodes ≤ program_limits.nodes) (sym live_stays) core.legal.within.nodes }

    all_plain : AllByRecursion IsPlainEntry (c.entries ++ e ∷ [])
    all_plain = all_both IsPlainEntry c.entries (e ∷ []) core.plain ((tt, tt), tt)

    each_moment : AtEach (IsMoment c.prog (sends_of (c.entries ++ e ∷ []))) [] (c.trace ++ m ∷ [])
    each_moment = subst (λ ss. AtEach (IsMoment c.prog ss) [] (c.trace ++ m ∷ [])) (sym more_sends)
        (each_more (IsMoment c.prog (sends_of c.entries ++ s ∷ [])) [] c.trace m old_moments last_moment)

    of_here : AllByRecursion (λ j. is_of_transaction here j.time ≡ true) (m ∷ [])
    of_here = ((let h : (here == here) ≡ true = grind (arith, nat_tests) in h), tt)

    send_legal : IsLegal c.prog program_limits (c.entries ++ e ∷ []) (c.trace ++ m ∷ [])
    send_legal = legal_after c.prog program_limits c.entries e c.trace (m ∷ []) core.legal of_here
        (is_trace (c.trace ++ m ∷ []) small_after c.prog (c.entries ++ e ∷ []) (no_groups (c.entries ++ e ∷ []) all_plain) more_times each_moment)
        (each_more (IsSoundAfter c.prog) [] c.trace m core.legal.sound last_sound)
        keeps_limits (omega arith)
        (not_refused (no_sends c.prog (node_in (live c.trace)) (f ∷ [])) _ (Accepted 1) (one_taken c.prog (node_in (live c.trace)) f sink) refl)

    send_core : IsCore (with_moment c e m)
    send_core = record {
      typed = core.typed;
      built = core.built;
      nodes = live_stays ∙ core.nodes;
      small = small_after;
      begun = subst (λ ns. IsSomeAnd (slice_get (c.trace ++ m ∷ []) 0) (λ k. k.born ≡ ns)) (sym live_stays) (begun_more (λ k. k.born ≡ live c.trace) c.trace m core.begun);
      times = more_times;
      legal = send_legal;
      plain = all_plain;
    }

    pub sent_core : (k : Moment) → k ≡ m → IsCore (with_moment c e k)
    sent_core k q = subst (λ k. IsCore (with_moment c e k)) (sym q) send_core

-- The fields of a core that was changed.

pub entered : (a s : State) → a ≡ s → IsCore a → HasRoom s → (e : Entry) → IsQuiet s e → (entries : List Entry) → entries ≡ a.entries ++ e ∷ []
    → IsCore (record { prog = a.prog; entries = entries; trace = a.trace })
entered a s v core room e quiet entries q = subst (λ es. IsCore (record { prog = a.prog; entries = es; trace = a.trace })) (sym q)
    (quiet_core a core (subst HasRoom (sym v) room) e (subst (λ c. IsQuiet c e) (sym v) quiet))

-- where the entry found no memory, the moment was popped again
moment_popped : (o : Option Moment) (before after : List Moment) (m : Moment) → MatchOption o ((before ++ m ∷ [] ≡ []) × (after ≡ [])) (λ last. before ++ m ∷ [] ≡ after ++ last ∷ []) → after ≡ before
moment_popped None [] after m h = absurd (let e : m ∷ [] ≡ [] = h.0 in cc)
moment_popped None (x ∷ xs) after m h = absurd (let e : x ∷ (xs ++ m ∷ []) ≡ [] = h.0 in cc)
moment_popped (Some last) before after m h = sym (fronts before after m last h) where
  fronts : (xs ys : List Moment) (a b : Moment) → xs ++ a ∷ [] ≡ ys ++ b ∷ [] → xs ≡ ys
  fronts [] [] a b e = refl
  fronts [] (y ∷ []) a b e = absurd cc
  fronts [] (y ∷ z ∷ ys) a b e = absurd cc
  fronts (x ∷ []) [] a b e = absurd cc
  fronts (x ∷ z ∷ xs) [] a b e = absurd cc
  fronts (x ∷ xs) (y ∷ ys) a b e =
      let first : x ≡ y = cc in
      let rest : xs ++ a ∷ [] ≡ ys ++ b ∷ [] = cc in
      λ i. first i ∷ fronts xs ys a b rest i

pub unchanged : {T E : Type 0} (a : State) (m : Moment) (r : Result T E) (ok : Bool) (o : Option Moment) (entries : List Entry) (full trace : List Moment) → IsCore a → full ≡ a.trace ++ m ∷ []
    → OnErr r (entries ≡ a.entries) → ok ≡ is_ok r → ok ≡ false → MatchOption o ((full ≡ []) × (trace ≡ [])) (λ last. full ≡ trace ++ last ∷ [])
    → IsCore (record { prog = a.prog; entries = entries; trace = trace })
unchanged a m (Ok x) ok o entries full trace core grown err e f pop = absurd (let t : true ≡ false = sym e ∙ f in cc)
unchanged a m (Err x) ok o entries full trace core grown err e f pop =
    let same : trace ≡ a.trace = moment_popped o a.trace trace m (subst (λ ms. MatchOption o ((ms ≡ []) × (trace ≡ [])) (λ last. ms ≡ trace ++ last ∷ [])) grown pop) in
    subst (λ es. IsCore (record { prog = a.prog; entries = es; trace = trace })) (sym err) (subst (λ ts. IsCore (record { prog = a.prog; entries = a.entries; trace = ts })) (sym same) core)

-- Entries that send nothing.

pub join_quiet : (c : State) (caller : ℕ) (node : Name) (r : Reply) → RefusedOr (no_node (node_in (live c.trace) node)) (IsNewKey c.entries (length c.entries + 1)) r → IsPlain r
    → IsQuiet c (record { caller = caller; cmd = Join node; reply = r })
join_quiet c caller node r h p = record { unsent = none_sent (length c.entries + 1) (Join node) r refl; plain = (tt, p); reply = h }

-- the reply to a leave
pub leaves_own : (c : State) → IsCore c → (caller : ℕ) (key : Key) (node : Name) (items : List Delivered) → listener c.entries key ≡ Some (record { caller = caller; node = node })
    → items ≡ window c.trace node key.place → RefusedOr (no_listener caller (listener c.entries key)) (λ r. r ≡ Left (rest c.trace c.entries key)) (Left items)
leaves_own c core caller key node items h w =
    not_refused (no_listener caller (listener c.entries key)) _ (Left items) (ap (no_listener caller) h ∙ own_listener caller node)
    (ap (λ (ds : List Delivered). Left ds) (w ∙ whole_window c.trace c.entries key (record { caller = caller; node = node }) core.plain h))

-- After the build.
module _ (prog : Prog) (nodes : List Node) (fired : List Fact) (typed : IsTypedProg prog) (built : is_built prog ≡ true) (few : length prog.body.lines ≤ program_limits.nodes)
    (same : nodes ≡ line_nodes [] prog.body.lines) (small : AreSmallFrom 0 nodes) (facts : AreFacts prog nodes 0 None fired) where
  abbrev first_moment : Moment
  first_moment = record { time = build; born = nodes; fired = fired }

  abbrev first_core : State
  first_core = record { prog = prog; entries = []; trace = first_moment ∷ [] }

  small_first : AreSmallFrom 0 (live (first_moment ∷ []))
  small_first = subst (AreSmallFrom 0) (sym (append-nil nodes)) small

  abbrev first_sight : Sight
  first_sight = sight_of [] first_moment

  first_finds : (n : Name) → first_sight.node n ≡ node_in nodes n
  first_finds n = ap (λ (xs : List Node). node_in xs n) (append-nil nodes)

  is_first : IsMoment prog [] [] first_moment
  is_first = new_moment prog nodes [] 0 None [] first_moment facts.occs refl facts.fired small
      (settled_length prog 0 None [] nodes facts.occs facts.settled) (λ n. refl) facts.settled
      (file_births prog first_sight (no_execute first_sight nodes first_finds small) nodes refl (subst (AreBorn prog first_sight (file_plans prog)) (sym same) (born prog first_sight built)))
      (nodes_rise 0 nodes small) (append-nil nodes)

  first_same : (n : Name) → first_sight.node n ≡ node_in (line_nodes [] prog.body.lines) n
  first_same n = first_finds n ∙ ap (λ (xs : List Node). node_in xs n) same

  first_sound : IsSoundAfter prog [] first_moment
  first_sound = record {
    firsts = subst (λ (xs : List Node). list_all (has_typed_first prog first_sight) xs ≡ true) (sym same) (nodes_right prog first_sight typed built first_same).firsts;
    facts = typed_facts prog typed built [] first_sight first_same (λ n. refl) (λ n x e. refl) is_first.equations fired (λ n. refl) is_first.facts_of_live is_first.fired_rise;
    chainless = chainless first_sight nodes first_finds small;
  }

  one_moment : (b : Bool) → length (cond b (first_moment ∷ []) []) ≤ program_limits.moments
  one_moment true = omega arith
  one_moment false = omega arith

  few_first : length (live (first_moment ∷ [])) ≤ program_limits.nodes
  few_first = subst (λ (all : List Node). length all ≤ program_limits.nodes) (sym (append-nil nodes ∙ same))
      (let l : length (line_nodes [] prog.body.lines) ≤ length prog.body.lines = few_nodes [] prog.body.lines in omega arith)

  is_first_core : IsCore first_core
  is_first_core = record {
    typed = typed;
    built = built;
    nodes = append-nil nodes ∙ same;
    small = small_first;
    begun = sym (append-nil nodes);
    times = refl;
    legal = record {
      is_trace = is_trace (first_moment ∷ []) small_first prog [] tt refl (is_first, tt);
      sound = (first_sound, tt);
      within = record { moments = λ k. one_moment (is_of_transaction k build); nodes = few_first };
      few_entries = omega arith;
      replies = tt;
    };
    plain = tt;
  }

  pub build_core : (entries : List Entry) (trace : List Moment) → entries ≡ [] → trace ≡ first_moment ∷ [] → IsCore (record { prog = prog; entries = entries; trace = trace })
  build_core entries trace p q = subst (λ es. IsCore (record { prog = prog; entries = es; trace = trace })) (sym p) (subst (λ ts. IsCore (record { prog = prog; entries = []; trace = ts })) (sym q) is_first_core)
