-- Legal histories without their last entry, and with one entry more.
use Rattle.std.proofs.Common.{◌≡◌, ℕ, ◌+◌, ◌<◌, ◌≤◌, true, false, List, [], ◌∷◌, ◌++◌, length, sym, ap, ◌∙◌, subst, arith, length-append, append_assoc}
use Rattle.std.specs.Prelude.{nat_lt}
use Rattle.std.specs.List.{AllByRecursion}
use Rattle.std.proofs.lemmas.Bool.Decides.{nat_tests}
use Rattle.std.proofs.lemmas.List.{append-nil}
use Rattle.std.proofs.lemmas.List.Elements.{filter-append}
use Rattle.frp_base.specs.Time.{time_eq}
use Rattle.frp_graph.specs.declared.trace.Moment.{Moment}
use Rattle.frp_graph.specs.declared.trace.Sent.{Sent}
use Rattle.frp_graph.specs.declared.prog.Prog.{Prog}
use Rattle.frp_graph.specs.declared.limits.Limits.{Limits}
use Rattle.frp_graph.specs.Trace.{live, moments_before}
use Rattle.frp_graph.specs.Moments.{AtEach, IsMoment, IsTrace, is_of_transaction, transaction, moments_of}
use Rattle.frp_graph.specs.Sound.{IsSoundAfter, KeepsLimits}
use Rattle.frp_graph.proofs.Lists.{time_same}
use Rattle.frp_graph.proofs.Sending.{NotAt, sent_elsewhere, moments_moved}
use Rattle.frp_graph.proofs.Transactions.{some_rise}
use Rattle.frp_graph.proofs.Before.{before, before_first, all_before, begins, each_beginning, live_append, due_few, before_few, transaction_few, filter_none, filter_each, filter_apart, not_before, not_earlier, not_of, trace_early}
use Rattle.frp_history.specs.declared.history.Entry.{Entry}
use Rattle.frp_history.specs.History.{accepted_sends, sends_of}
use Rattle.frp_history.specs.Legal.{IsReply, AreReplies, IsLegal}
use Rattle.frp_history.proofs.Sendings.{sends_of_more, sends_here, sends_before}
use Rattle.frp_base.proofs.Booleans.{is_false}
use Rattle.frp_base.proofs.Lists.{all_follow}

-- Replies over two traces that agree before each place up to one, and in its transaction.

module _ (prog : Prog) (limits : Limits) where
  -- an entry's reply is the one that it has after these entries
  abbrev Replied : List Moment → List Entry → Entry → Type 0
  Replied trace past e =
      IsReply prog limits (moments_before ((length past + 1) ∷ []) trace) (transaction (length past + 1) trace) past (length past + 1) e.caller e.cmd e.reply

  module _ (trace other : List Moment) (n : ℕ) (same : (j : ℕ) → j ≤ n → moments_before (j ∷ []) trace ≡ moments_before (j ∷ []) other)
      (own : (j : ℕ) → j ≤ n → transaction j trace ≡ transaction j other) where
    reply_moved : (past : List Entry) (e : Entry) → length past + 1 ≤ n → Replied trace past e → Replied other past e
    reply_moved past e l h =
        subst (λ ms. IsReply prog limits (moments_before ((length past + 1) ∷ []) other) ms past (length past + 1) e.caller e.cmd e.reply) (own (length past + 1) l)
        (subst (λ ms. IsReply prog limits ms (transaction (length past + 1) trace) past (length past + 1) e.caller e.cmd e.reply) (same (length past + 1) l) h)

    replies_moved : (past es more : List Entry) → length past + length es ≤ n → AreReplies prog limits trace past (es ++ more) → AreReplies prog limits other past es
    replies_moved past [] more l h = tt
    replies_moved past (e ∷ es) more l h = (reply_moved past e (omega arith) h.0, replies_moved (past ++ e ∷ []) es more (simp length-append (omega arith)) h.1)

  replies_more : (trace : List Moment) (past es : List Entry) (e : Entry) → AreReplies prog limits trace past es → Replied trace (past ++ es) e → AreReplies prog limits trace past (es ++ e ∷ [])
  replies_more trace past [] e h r = (subst (λ ps. Replied trace ps e) (append-nil past) r, tt)
  replies_more trace past (d ∷ es) e h r = (h.0, replies_more trace (past ++ d ∷ []) es e h.1 (subst (λ ps. Replied trace ps e) (sym (append_assoc past (d ∷ []) es)) r))

-- Sizes.

count_append : (j : ℕ) (ms ks : List Moment) → moments_of j (ms ++ ks) ≡ moments_of j ms + moments_of j ks
count_append j ms ks = ap length (filter-append (λ m. is_of_transaction j m.time) ms ks) ∙ length-append _ _

less_moments : (limits : Limits) (ms ks trace : List Moment) → trace ≡ ms ++ ks → KeepsLimits limits trace → KeepsLimits limits ms
less_moments limits ms ks trace e h = record {
  moments = λ j. let a : moments_of j trace ≡ moments_of j ms + moments_of j ks = ap (moments_of j) e ∙ count_append j ms ks in let b = h.moments j in omega arith;
  nodes = let a : length (live trace) ≡ length (live ms) + length (live ks) = ap (λ ts. length (live ts)) e ∙ ap length (live_append ms ks) ∙ length-append (live ms) (live ks) in let b = h.nodes in omega arith;
}

-- Without its last entry.

module _ (prog : Prog) (limits : Limits) (entries : List Entry) (e : Entry) (trace : List Moment) (legal : IsLegal prog limits (entries ++ e ∷ []) trace) where
  abbrev place : ℕ
  place = length entries + 1

  abbrev few : List Moment
  few = moments_before (place ∷ []) trace

  abbrev last : List Sent
  last = accepted_sends place e.cmd e.reply

  -- at a time before its place nothing is sent there
  not_here : (m : Moment) → before place m.time ≡ true → (ss : List Sent) → AllByRecursion (λ s. s.place ≡ place) ss → NotAt m.time ss
  not_here m b [] h = tt
  not_here m b (s ∷ ss) h = (
    is_false (time_eq m.time (s.place ∷ [])) (λ e.
        let same : before place (s.place ∷ []) ≡ true = subst (λ u. before place u ≡ true) (time_same m.time (s.place ∷ []) e) b in
        let f : before place (s.place ∷ []) ≡ nat_lt s.place place = before_first s.place place [] in
        let p : s.place ≡ length entries + 1 = h.0 in
        let g : nat_lt s.place (length entries + 1) ≡ false = grind (arith, nat_tests) in
        cc),
    not_here m b ss h.1,
  )

  pub legal_before : IsLegal prog limits entries few
  legal_before =
      let t : IsTrace prog (sends_of entries ++ last) trace = subst (λ ss. IsTrace prog ss trace) (sends_of_more entries e) legal.is_trace in
      let here = sends_here place e.cmd e.reply in
      let b = begins place trace t.rising in
      record {
        is_trace = record {
          rising = some_rise (λ m. before place m.time) trace t.rising;
          due = due_few place trace (sends_of entries) last (omega arith) (sends_before entries) here t.due;
          moments = moments_moved prog (sends_of entries ++ last) (sends_of entries) (λ m. before place m.time ≡ true) (λ m h n. sent_elsewhere prog (sends_of entries) last m.time n (not_here m h last here)) []
              few (all_before (λ m. before place m.time) trace) (each_beginning (IsMoment prog (sends_of entries ++ last)) [] few b.rest (subst (AtEach (IsMoment prog (sends_of entries ++ last)) []) b.is t.moments));
        };
        sound = each_beginning (IsSoundAfter prog) [] few b.rest (subst (AtEach (IsSoundAfter prog) []) b.is legal.sound);
        within = less_moments limits few b.rest trace b.is legal.within;
        few_entries = let l : length (entries ++ e ∷ []) ≤ limits.entries = legal.few_entries in omega (arith, length-append entries (e ∷ []));
        replies = replies_moved prog limits trace few (length entries) (λ j l. sym (before_few place trace j (omega arith))) (λ j l. sym (transaction_few place trace j (omega arith))) [] entries (e ∷ [])
            (omega arith) legal.replies;
      }

-- With one entry more.

module _ (k : ℕ) (trace own : List Moment) (early : AllByRecursion (λ m. before k m.time ≡ true) trace) (here : AllByRecursion (λ m. is_of_transaction k m.time ≡ true) own) where
  before_stays : (j : ℕ) → j ≤ k → moments_before (j ∷ []) (trace ++ own) ≡ moments_before (j ∷ []) trace
  before_stays j l = filter_apart (λ m. before j m.time) trace own (all_follow _ _ (λ m. not_before j k l m.time) own here)

  transaction_stays : (j : ℕ) → j < k → transaction j (trace ++ own) ≡ transaction j trace
  transaction_stays j l = filter_apart (λ m. is_of_transaction j m.time) trace own (all_follow _ _ (λ m. not_earlier j k l m.time) own here)

  before_all : moments_before (k ∷ []) (trace ++ own) ≡ trace
  before_all = before_stays k (omega arith) ∙ filter_each (λ m. before k m.time) trace early

  transaction_own : transaction k (trace ++ own) ≡ own
  transaction_own =
      filter-append (λ m. is_of_transaction k m.time) trace own
      ∙ ap (λ ms. ms ++ transaction k own) (filter_none (λ m. is_of_transaction k m.time) trace (all_follow _ _ (λ m. not_of k m.time) trace early))
      ∙ filter_each (λ m. is_of_transaction k m.time) own here

module _ (prog : Prog) (limits : Limits) (entries : List Entry) (e : Entry) (trace own : List Moment) (legal : IsLegal prog limits entries trace)
    (here : AllByRecursion (λ m. is_of_transaction (length entries + 1) m.time ≡ true) own) where
  early : AllByRecursion (λ m. before (length entries + 1) m.time ≡ true) trace
  early = trace_early (length entries + 1) (sends_of entries) trace legal.is_trace.due (omega arith) (sends_before entries)

  pub legal_after : IsTrace prog (sends_of (entries ++ e ∷ [])) (trace ++ own) → AtEach (IsSoundAfter prog) [] (trace ++ own) → KeepsLimits limits (trace ++ own)
      → length entries + 1 ≤ limits.entries → IsReply prog limits trace own entries (length entries + 1) e.caller e.cmd e.reply
      → IsLegal prog limits (entries ++ e ∷ []) (trace ++ own)
  legal_after t sound within l reply = record {
    is_trace = t;
    sound = sound;
    within = within;
    few_entries = omega (arith, length-append entries (e ∷ []));
    replies =
        replies_more prog limits (trace ++ own) [] entries e
        (replies_moved prog limits trace (trace ++ own) (length entries) (λ j l. sym (before_stays (length entries + 1) trace own early here j (omega arith)))
        (λ j l. sym (transaction_stays (length entries + 1) trace own early here j (omega arith))) [] entries [] (omega arith)
        (subst (AreReplies prog limits trace []) (sym (append-nil entries)) legal.replies))
        (subst (λ ms. IsReply prog limits (moments_before ((length entries + 1) ∷ []) (trace ++ own)) ms entries (length entries + 1) e.caller e.cmd e.reply)
        (sym (transaction_own (length entries + 1) trace own early here))
        (subst (λ ms. IsReply prog limits ms own entries (length entries + 1) e.caller e.cmd e.reply) (sym (before_all (length entries + 1) trace own early here)) reply));
  }
