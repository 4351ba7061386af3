-- A history and a trace that are legal together.
use Rattle.std.specs.Prelude.{◌≡◌, ℕ, ◌+◌, ◌≤◌, Bool, true, false, not, ◌&&◌, ◌==◌, List, [], ◌∷◌, ◌++◌, take, Option, Some, None, is_some, IsTrue, length, if◌then◌else◌, ⊤}
use Rattle.std.specs.List.{list_any}
use Rattle.frp_base.specs.declared.name.Name.{Name}
use Rattle.frp_base.specs.declared.val.Val.{Val}
use Rattle.frp_base.specs.Name.{name_eq}
use Rattle.frp_graph.specs.declared.trace.Node.{Node}
use Rattle.frp_graph.specs.declared.trace.Moment.{Moment}
use Rattle.frp_graph.specs.declared.trace.Fact.{Fact}
use Rattle.frp_graph.specs.declared.trace.Sent.{Sent}
use Rattle.frp_graph.specs.declared.prog.Prog.{Prog}
use Rattle.frp_graph.specs.declared.limits.Limits.{Limits}
use Rattle.frp_graph.specs.declared.evidence.Evidence.{Evidence}
use Rattle.frp_graph.specs.declared.evidence.Why.{Why}
use Rattle.frp_graph.specs.declared.evidence.Why.TheVariants as why
use Rattle.frp_history.specs.declared.history.Cmd.{Cmd}
use Rattle.frp_history.specs.declared.history.Cmd.TheVariants.{Send, Group, Join, Take, Leave}
use Rattle.frp_history.specs.declared.history.No.{No}
use Rattle.frp_history.specs.declared.history.No.TheVariants.{UnknownSink, WrongType, Cyclic, Endless, Full, UnknownNode, UnknownListener, NotYours, Twice}
use Rattle.frp_history.specs.declared.history.Reply.{Reply}
use Rattle.frp_history.specs.declared.history.Reply.TheVariants.{Accepted, Refused, Joined, Given, Left}
use Rattle.frp_history.specs.declared.history.Entry.{Entry}
use Rattle.frp_graph.specs.Trace.{or_else, live, node_in, moments_before}
use Rattle.frp_graph.specs.Values.{fits_node}
use Rattle.frp_graph.specs.Roles.{is_sink_shape}
use Rattle.frp_graph.specs.Sends.{join_of}
use Rattle.frp_graph.specs.Moments.{AtEach, IsTrace, transaction}
use Rattle.frp_graph.specs.Sound.{IsSoundAfter, KeepsLimits}
use Rattle.frp_graph.specs.Evidence.{IsTrueEvidence}
use Rattle.frp_history.specs.History.{sends_at, sends_of}
use Rattle.frp_history.specs.Listeners.{Listener, listener, IsFreeSlot, rest}

-- Refusals that are known before anything is done: the first that applies. The live nodes are found by name.

abbrev pub no_sink : Prog → (Name → Option Node) → Val → Option Node → Option No
no_sink prog node v None = Some UnknownSink
no_sink prog node v (Some x) = if is_sink_shape x.shape then (if fits_node prog node x.ty v then None else Some WrongType) else Some UnknownSink

-- the first of several sends that is to no sink, or of a value that is not of its type
abbrev pub no_sinks : Prog → (Name → Option Node) → List Fact → Option No
no_sinks prog node [] = None
no_sinks prog node (f ∷ fs) = or_else (no_sink prog node f.value (node f.node)) (no_sinks prog node fs)

-- the first of several sends, after those to these sinks, whose sink has no combining expression and is one of them
abbrev pub sent_twice : Prog → List Name → List Fact → Option No
sent_twice prog earlier [] = None
sent_twice prog earlier (f ∷ fs) =
    if list_any (λ n. name_eq n f.node) earlier && not (is_some (join_of prog f.node)) then Some (Twice f.node) else sent_twice prog (f.node ∷ earlier) fs

abbrev pub no_sends : Prog → (Name → Option Node) → List Fact → Option No
no_sends prog node sends = or_else (no_sinks prog node sends) (sent_twice prog [] sends)

abbrev pub no_node : Option Node → Option No
no_node None = Some UnknownNode
no_node (Some x) = None

abbrev pub no_listener : ℕ → Option Listener → Option No
no_listener caller None = Some UnknownListener
no_listener caller (Some l) = if l.caller == caller then None else Some NotYours

-- the reply is that refusal where there is one, else it is as is said
abbrev pub RefusedOr : Option No → (Reply → Type 0) → Reply → Type 0
RefusedOr (Some refusal) P reply = reply ≡ Refused refusal
RefusedOr None P reply = P reply

-- What a transaction is answered.

abbrev pub is_chain : Why → Bool
is_chain (why.Chain phase names) = true
is_chain (why.Endless limit) = false
is_chain (why.Full node limit) = false

abbrev pub is_endless : Why → Bool
is_endless (why.Chain phase names) = false
is_endless (why.Endless limit) = true
is_endless (why.Full node limit) = false

abbrev pub is_full : Why → Bool
is_full (why.Chain phase names) = false
is_full (why.Endless limit) = false
is_full (why.Full node limit) = true

-- Transaction k is refused with true evidence, of the kind that is said, over the moments before it.
abbrev pub IsRefusal : Prog → Limits → List Sent → ℕ → List Moment → No → Type 0
IsRefusal prog limits sends k before (Cyclic e) = IsTrue (is_chain e.why) × IsTrueEvidence prog limits sends k before e
IsRefusal prog limits sends k before (Endless e) = IsTrue (is_endless e.why) × IsTrueEvidence prog limits sends k before e
IsRefusal prog limits sends k before (Full e) = IsTrue (is_full e.why) × IsTrueEvidence prog limits sends k before e
IsRefusal prog limits sends k before UnknownSink = ⊥
IsRefusal prog limits sends k before WrongType = ⊥
IsRefusal prog limits sends k before UnknownNode = ⊥
IsRefusal prog limits sends k before UnknownListener = ⊥
IsRefusal prog limits sends k before NotYours = ⊥
IsRefusal prog limits sends k before (Twice sink) = ⊥

-- a build is refused with true evidence over no moments
abbrev pub IsRefusedBuild : Prog → Limits → Evidence → Type 0
IsRefusedBuild prog limits e = IsTrueEvidence prog limits [] 0 [] e

-- It has no moment then; or it is accepted with the number of its moments.
abbrev pub IsAnswer : Prog → Limits → List Sent → ℕ → List Moment → List Moment → Reply → Type 0
IsAnswer prog limits sends k before own (Accepted moments) = moments ≡ length own
IsAnswer prog limits sends k before own (Refused refusal) = IsRefusal prog limits sends k before refusal × (own ≡ [])
IsAnswer prog limits sends k before own (Joined key) = ⊥
IsAnswer prog limits sends k before own (Given items) = ⊥
IsAnswer prog limits sends k before own (Left items) = ⊥

-- a key of this place, with a slot of no listener held after these entries
abbrev pub IsNewKey : List Entry → ℕ → Reply → Type 0
IsNewKey past k (Joined key) = (key.place ≡ k) × IsFreeSlot past key.slot
IsNewKey past k (Accepted moments) = ⊥
IsNewKey past k (Refused refusal) = ⊥
IsNewKey past k (Given items) = ⊥
IsNewKey past k (Left items) = ⊥

-- The reply to what is sent at place k, after the entries and the moments before it; its transaction has moments of its own.
abbrev pub IsSendReply : Prog → Limits → List Moment → List Moment → List Entry → ℕ → List Fact → Reply → Type 0
IsSendReply prog limits before own past k sends reply =
    RefusedOr (no_sends prog (node_in (live before)) sends) (IsAnswer prog limits (sends_of past ++ sends_at k 0 sends) k before own) reply

-- the reply to a caller's command
abbrev pub IsReply : Prog → Limits → List Moment → List Moment → List Entry → ℕ → ℕ → Cmd → Reply → Type 0
IsReply prog limits before own past k caller (Send sink value) reply = IsSendReply prog limits before own past k (record { node = sink; value = value } ∷ []) reply
IsReply prog limits before own past k caller (Group sends) reply = IsSendReply prog limits before own past k sends reply
IsReply prog limits before own past k caller (Join node) reply = RefusedOr (no_node (node_in (live before) node)) (IsNewKey past k) reply
IsReply prog limits before own past k caller (Take key max) reply =
    RefusedOr (no_listener caller (listener past key)) (λ r. r ≡ Given (take max (rest before past key))) reply
IsReply prog limits before own past k caller (Leave key) reply =
    RefusedOr (no_listener caller (listener past key)) (λ r. r ≡ Left (rest before past key)) reply

-- each entry's reply is the one that it has after those before it, and after the moments before its place
abbrev pub AreReplies : Prog → Limits → List Moment → List Entry → List Entry → Type 0
AreReplies prog limits trace past [] = ⊤
AreReplies prog limits trace past (e ∷ es) =
    IsReply prog limits (moments_before ((length past + 1) ∷ []) trace) (transaction (length past + 1) trace) past (length past + 1) e.caller e.cmd e.reply
    × AreReplies prog limits trace (past ++ e ∷ []) es

-- The trace is the program's for the sends of the history, its values are of their types and no moment has a closed chain,
-- the limits are kept, and each reply is as it must be.
pub record IsLegal (prog : Prog) (limits : Limits) (entries : List Entry) (trace : List Moment) : Type 0 where
  pub is_trace : IsTrace prog (sends_of entries) trace
  pub sound : AtEach (IsSoundAfter prog) [] trace
  pub within : KeepsLimits limits trace
  pub few_entries : length entries ≤ limits.entries
  pub replies : AreReplies prog limits trace [] entries
