-- Which places of a legal history have moments, and how many are answered.
use Rattle.std.proofs.Common.{◌≡◌, ℕ, ◌+◌, ◌<◌, zero, suc, false, List, [], ◌∷◌, ◌++◌, length, Option, Some, None, refl, sym, ap, ◌∙◌, subst, arith, length-append}
use Rattle.std.specs.Prelude.{◌==◌, slice_get}
use Rattle.std.specs.List.{AllByRecursion, list_any}
use Rattle.std.proofs.lemmas.Bool.Decides.{nat_tests}
use Rattle.frp_graph.specs.declared.trace.Moment.{Moment}
use Rattle.frp_graph.specs.declared.trace.Sent.{Sent}
use Rattle.frp_graph.specs.declared.prog.Prog.{Prog}
use Rattle.frp_graph.specs.declared.limits.Limits.{Limits}
use Rattle.frp_graph.specs.Trace.{live, moments_before, node_in}
use Rattle.frp_graph.specs.Moments.{transaction, moments_of}
use Rattle.frp_graph.proofs.Transactions.{none_unsent}
use Rattle.frp_history.specs.declared.history.Cmd.{Cmd}
use Rattle.frp_history.specs.declared.history.Cmd.TheVariants.{Send, Group, Join, Take, Leave}
use Rattle.frp_history.specs.declared.history.No.{No}
use Rattle.frp_history.specs.declared.history.Reply.{Reply}
use Rattle.frp_history.specs.declared.history.Reply.TheVariants.{Accepted}
use Rattle.frp_history.specs.declared.history.Entry.{Entry}
use Rattle.frp_history.specs.History.{entry_at, accepted_sends, sends_from, sends_of}
use Rattle.frp_history.specs.Listeners.{listener}
use Rattle.frp_history.specs.Legal.{RefusedOr, no_sends, no_node, no_listener, IsReply, AreReplies, IsLegal}
use Rattle.frp_history.proofs.Sendings.{accepted_placed}
use Rattle.frp_base.proofs.Lists.{all_both}

-- Sends.

-- the sends of entries are at their places or later
sends_later : (n k : ℕ) (es : List Entry) → n < k → AllByRecursion (λ s. s.place ≡ n → ⊥) (sends_from k es)
sends_later n k [] h = tt
sends_later n k (e ∷ es) h =
    all_both (λ s. s.place ≡ n → ⊥) (accepted_sends k e.cmd e.reply) (sends_from (k + 1) es) (accepted_placed (λ j. j ≡ n → ⊥) k (λ z. omega arith) e.cmd e.reply) (sends_later n (k + 1) es (omega arith))

-- where an entry sends nothing nothing is sent at its place
none_sent : (k i : ℕ) (es : List Entry) (e : Entry) → slice_get es i ≡ Some e → accepted_sends (k + i) e.cmd e.reply ≡ [] → AllByRecursion (λ s. s.place ≡ k + i → ⊥) (sends_from k es)
none_sent k zero [] e g h = absurd cc
none_sent k (suc i) [] e g h = absurd cc
none_sent k zero (d ∷ es) e g h =
    let same : d ≡ e = cc in
    let z : k + 0 ≡ k = omega arith in
    let none : accepted_sends k d.cmd d.reply ≡ [] = (λ j. accepted_sends (sym z j) (same j).cmd (same j).reply) ∙ h in
    all_both (λ s. s.place ≡ k + 0 → ⊥) (accepted_sends k d.cmd d.reply) (sends_from (k + 1) es) (subst (AllByRecursion (λ s. s.place ≡ k + 0 → ⊥)) (sym none) tt)
    (sends_later (k + 0) (k + 1) es (omega arith))
none_sent k (suc i) (d ∷ es) e g h =
    let z : k + 1 + i ≡ k + suc i = omega arith in
    all_both (λ s. s.place ≡ k + suc i → ⊥) (accepted_sends k d.cmd d.reply) (sends_from (k + 1) es) (accepted_placed (λ j. j ≡ k + suc i → ⊥) k (λ y. omega arith) d.cmd d.reply)
    (subst (λ n. AllByRecursion (λ s. s.place ≡ n → ⊥) (sends_from (k + 1) es)) z (none_sent (k + 1) i es e g (subst (λ n. accepted_sends n e.cmd e.reply ≡ []) (sym z) h)))

none_of : (n : ℕ) (sends : List Sent) → AllByRecursion (λ s. s.place ≡ n → ⊥) sends → list_any (λ s. s.place == n) sends ≡ false
none_of n [] h = refl
none_of n (s ∷ sends) h = let e : s.place == n ≡ false = apart s.place n h.0 in rw e (none_of n sends h.1) where
  apart : (a b : ℕ) → (a ≡ b → ⊥) → a == b ≡ false
  apart a b f = grind (arith, nat_tests)

-- Answers.

-- what is accepted is as is said
unrefused : (o : Option No) (P : Reply → Type 0) (n : ℕ) → RefusedOr o P (Accepted n) → P (Accepted n)
unrefused None P n h = h
unrefused (Some why) P n h = absurd cc

module _ (prog : Prog) (limits : Limits) where
  -- what is accepted is with the number of its moments
  counted : (before own : List Moment) (past : List Entry) (k caller : ℕ) (cmd : Cmd) (n : ℕ) → IsReply prog limits before own past k caller cmd (Accepted n) → n ≡ length own
  counted before own past k caller (Send sink value) n h = unrefused (no_sends prog (node_in (live before)) (record { node = sink; value = value } ∷ [])) _ n h
  counted before own past k caller (Group sends) n h = unrefused (no_sends prog (node_in (live before)) sends) _ n h
  counted before own past k caller (Join node) n h = absurd (unrefused (no_node (node_in (live before) node)) _ n h)
  counted before own past k caller (Take key max) n h = absurd (let e = unrefused (no_listener caller (listener past key)) _ n h in cc)
  counted before own past k caller (Leave key) n h = absurd (let e = unrefused (no_listener caller (listener past key)) _ n h in cc)

  module _ (trace : List Moment) where
    count_at : (past es : List Entry) (i : ℕ) (e : Entry) (n : ℕ) → slice_get es i ≡ Some e → e.reply ≡ Accepted n → AreReplies prog limits trace past es
        → n ≡ moments_of (length past + 1 + i) trace
    count_at past [] zero e n g r h = absurd cc
    count_at past [] (suc i) e n g r h = absurd cc
    count_at past (d ∷ es) zero e n g r h =
        let same : d ≡ e = cc in
        let reply : d.reply ≡ Accepted n = ap (λ (x : Entry). x.reply) same ∙ r in
        let z : length past + 1 ≡ length past + 1 + 0 = omega arith in
        counted (moments_before ((length past + 1) ∷ []) trace) (transaction (length past + 1) trace) past (length past + 1) d.caller d.cmd n
        (subst (IsReply prog limits (moments_before ((length past + 1) ∷ []) trace) (transaction (length past + 1) trace) past (length past + 1) d.caller d.cmd) reply h.0)
        ∙ ap (λ j. moments_of j trace) z
    count_at past (d ∷ es) (suc i) e n g r h =
        let z : length (past ++ d ∷ []) + 1 + i ≡ length past + 1 + suc i = simp length-append (omega arith) in
        count_at (past ++ d ∷ []) es i e n g r h.1 ∙ ap (λ j. moments_of j trace) z

    pub only_sends : (entries : List Entry) → IsLegal prog limits entries trace → (k : ℕ) (e : Entry) → entry_at entries k ≡ Some e → accepted_sends k e.cmd e.reply ≡ []
        → (moments_of k trace ≡ 0) × ((n : ℕ) → e.reply ≡ Accepted n → n ≡ 0)
    only_sends entries legal zero e g h = absurd cc
    only_sends entries legal (suc i) e g h =
        let z : 1 + i ≡ suc i = omega arith in
        let s = none_sent 1 i entries e g (subst (λ j. accepted_sends j e.cmd e.reply ≡ []) (sym z) h) in
        let none : moments_of (suc i) trace ≡ 0
        = none_unsent (sends_of entries) trace legal.is_trace.due (suc i) (λ y. omega arith) (none_of (suc i) (sends_of entries) (subst (λ j. AllByRecursion (λ s. s.place ≡ j → ⊥) (sends_of entries)) z s)) in
        (none, λ n r. count_at [] entries i e n g r legal.replies ∙ ap (λ j. moments_of j trace) z ∙ none)

pub only_sends_have_moments : (prog : Prog) (limits : Limits) (entries : List Entry) (trace : List Moment) → IsLegal prog limits entries trace
    → (k : ℕ) (e : Entry) → entry_at entries k ≡ Some e → accepted_sends k e.cmd e.reply ≡ [] → (moments_of k trace ≡ 0) × ((n : ℕ) → e.reply ≡ Accepted n → n ≡ 0)
only_sends_have_moments prog limits entries trace legal = only_sends prog limits trace entries legal
