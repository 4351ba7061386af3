-- What a legal history sends could be sent.
use Rattle.std.proofs.Common.{◌≡◌, ℕ, ◌+◌, Bool, true, false, List, [], ◌∷◌, ◌++◌, length, Option, Some, None, refl, subst, arith, length-append}
use Rattle.std.specs.Prelude.{IsTrue, if◌then◌else◌}
use Rattle.std.specs.List.{AllByRecursion}
use Rattle.frp_base.specs.declared.name.Name.{Name}
use Rattle.frp_base.specs.declared.val.Val.{Val}
use Rattle.frp_graph.specs.declared.trace.Node.{Node}
use Rattle.frp_graph.specs.declared.trace.Moment.{Moment}
use Rattle.frp_graph.specs.declared.trace.Fact.{Fact}
use Rattle.frp_graph.specs.declared.trace.Sent.{Sent}
use Rattle.frp_graph.specs.declared.prog.Prog.{Prog}
use Rattle.frp_graph.specs.declared.limits.Limits.{Limits}
use Rattle.frp_graph.specs.Trace.{or_else, moments_before}
use Rattle.frp_graph.specs.Values.{fits_node}
use Rattle.frp_graph.specs.Roles.{is_sink_shape}
use Rattle.frp_graph.specs.Sends.{takes, node_before, AreSendable}
use Rattle.frp_graph.specs.Moments.{transaction}
use Rattle.frp_history.specs.declared.history.Cmd.{Cmd}
use Rattle.frp_history.specs.declared.history.Cmd.TheVariants.{Send, Group, Join, Take, Leave}
use Rattle.frp_history.specs.declared.history.No.{No}
use Rattle.frp_history.specs.declared.history.No.TheVariants.{UnknownSink, WrongType}
use Rattle.frp_history.specs.declared.history.Reply.{Reply}
use Rattle.frp_history.specs.declared.history.Reply.TheVariants.{Accepted, Refused, Joined, Given, Left}
use Rattle.frp_history.specs.declared.history.Entry.{Entry}
use Rattle.frp_history.specs.History.{sends_at, accepted_sends, sends_from, sends_of}
use Rattle.frp_history.specs.Legal.{RefusedOr, no_sink, no_sinks, sent_twice, no_sends, IsReply, AreReplies}
use Rattle.frp_base.proofs.Lists.{all_both}

-- of two refusals, the first that is there, there is none
neither : (a b : Option No) → or_else a b ≡ None → (a ≡ None) × (b ≡ None)
neither None b h = (refl, h)
neither (Some why) b h = absurd cc

chosen_none : (a b : Bool) → (if a then (if b then None else Some WrongType) else Some UnknownSink) ≡ None → (a ≡ true) × (b ≡ true)
chosen_none true true h = (refl, refl)
chosen_none true false h = absurd cc
chosen_none false b h = absurd cc

-- what is accepted is not refused
unrefused : (o : Option No) (P : Reply → Type 0) (n : ℕ) → RefusedOr o P (Accepted n) → o ≡ None
unrefused None P n h = refl
unrefused (Some why) P n h = absurd cc

module _ (prog : Prog) (trace : List Moment) (k : ℕ) where
  abbrev live_then : Name → Option Node
  live_then = node_before trace k

  taken : (v : Val) (o : Option Node) → no_sink prog live_then v o ≡ None → IsTrue (takes prog live_then v o)
  taken v None h = absurd cc
  taken v (Some x) h = let b = chosen_none (is_sink_shape x.shape) (fits_node prog live_then x.ty v) h in rw b.0 b.1

  all_taken : (i : ℕ) (fs : List Fact) → no_sinks prog live_then fs ≡ None
      → AllByRecursion (λ s. IsTrue (takes prog (node_before trace s.place) s.value (node_before trace s.place s.sink))) (sends_at k i fs)
  all_taken i [] h = tt
  all_taken i (f ∷ fs) h =
      let b = neither (no_sink prog live_then f.value (live_then f.node)) (no_sinks prog live_then fs) h in
      (taken f.value (live_then f.node) b.0, all_taken (i + 1) fs b.1)

module _ (prog : Prog) (limits : Limits) (trace : List Moment) where
  abbrev CanTake : Sent → Type 0
  CanTake s = IsTrue (takes prog (node_before trace s.place) s.value (node_before trace s.place s.sink))

  group_taken : (k n : ℕ) (fs : List Fact) (P : Reply → Type 0) → RefusedOr (no_sends prog (node_before trace k) fs) P (Accepted n) → AllByRecursion CanTake (sends_at k 0 fs)
  group_taken k n fs P h =
      all_taken prog trace k 0 fs (neither (no_sinks prog (node_before trace k) fs) (sent_twice prog [] fs) (unrefused (no_sends prog (node_before trace k) fs) P n h)).0

  entry_taken : (own : List Moment) (past : List Entry) (k caller : ℕ) (cmd : Cmd) (reply : Reply) → IsReply prog limits (moments_before (k ∷ []) trace) own past k caller cmd reply
      → AllByRecursion CanTake (accepted_sends k cmd reply)
  entry_taken own past k caller (Send sink value) (Accepted n) h = group_taken k n (record { node = sink; value = value } ∷ []) _ h
  entry_taken own past k caller (Group sends) (Accepted n) h = group_taken k n sends _ h
  entry_taken own past k caller (Join node) (Accepted n) h = tt
  entry_taken own past k caller (Take key max) (Accepted n) h = tt
  entry_taken own past k caller (Leave key) (Accepted n) h = tt
  entry_taken own past k caller cmd (Refused why) h = tt
  entry_taken own past k caller cmd (Joined key) h = tt
  entry_taken own past k caller cmd (Given items) h = tt
  entry_taken own past k caller cmd (Left items) h = tt

  all_entries : (past es : List Entry) → AreReplies prog limits trace past es → AllByRecursion CanTake (sends_from (length past + 1) es)
  all_entries past [] h = tt
  all_entries past (e ∷ es) h =
      let next : length (past ++ e ∷ []) + 1 ≡ length past + 1 + 1 = simp length-append (omega arith) in
      all_both CanTake (accepted_sends (length past + 1) e.cmd e.reply) (sends_from (length past + 1 + 1) es)
      (entry_taken (transaction (length past + 1) trace) past (length past + 1) e.caller e.cmd e.reply h.0)
      (subst (λ k. AllByRecursion CanTake (sends_from k es)) next (all_entries (past ++ e ∷ []) es h.1))

  pub sends_are_sendable : (entries : List Entry) → AreReplies prog limits trace [] entries → AreSendable prog (sends_of entries) trace
  sends_are_sendable entries h = all_entries [] entries h
