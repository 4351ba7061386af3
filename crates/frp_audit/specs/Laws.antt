-- The laws of the definitions alone: for given sends there is one trace, and no transaction is both answered with a trace and
-- refused with evidence.
use Rattle.std.specs.Prelude.{◌≡◌, ℕ, Bool, true, false, IsTrue, List, [], ◌++◌}
use Rattle.frp_graph.specs.declared.prog.Prog.{Prog}
use Rattle.frp_graph.specs.declared.limits.Limits.{Limits}
use Rattle.frp_graph.specs.declared.evidence.Evidence.{Evidence}
use Rattle.frp_graph.specs.declared.evidence.Why.{Why}
use Rattle.frp_graph.specs.declared.evidence.Why.TheVariants.{Chain, Endless, Full}
use Rattle.frp_graph.specs.declared.trace.Moment.{Moment}
use Rattle.frp_graph.specs.declared.trace.Sent.{Sent}
use Rattle.frp_graph.specs.TypedProg.{IsTypedProg}
use Rattle.frp_graph.specs.Sends.{AreSendable}
use Rattle.frp_graph.specs.Moments.{AtEach, IsTrace}
use Rattle.frp_graph.specs.Sound.{IsSoundAfter, KeepsLimits}
use Rattle.frp_graph.specs.Evidence.{IsTooLarge, IsTrueEvidence}

-- The trace is the program's for these sends, its values are of their types, and no phase of a moment has a closed chain.
pub record IsSoundTrace (prog : Prog) (sends : List Sent) (trace : List Moment) : Type 0 where
  pub is_trace : IsTrace prog sends trace
  pub sound : AtEach (IsSoundAfter prog) [] trace

-- For given sends, which could be sent, there is only one trace that meets the rules.
abbrev pub OneTrace : Type 0
OneTrace = (prog : Prog) (sends : List Sent) (a b : List Moment) → IsTypedProg prog
    → IsSoundTrace prog sends a → IsSoundTrace prog sends b → AreSendable prog sends a → a ≡ b

abbrev pub is_chain : Why → Bool
is_chain (Chain phase names) = true
is_chain (Endless limit) = false
is_chain (Full node limit) = false

-- Where true evidence shows a closed chain of a transaction, the moments before it go on to no trace that meets the rules for these
-- sends, if they could be sent in it.
abbrev pub ChainsExclude : Type 0
ChainsExclude = (prog : Prog) (limits : Limits) (sends : List Sent) (k : ℕ) (before moments : List Moment) (e : Evidence) → IsTypedProg prog
    → IsTrueEvidence prog limits sends k before e → IsTrue (is_chain e.why) → AreSendable prog sends (before ++ moments)
    → IsSoundTrace prog sends (before ++ moments) → ⊥

-- A file that alone makes more nodes than the limit has no trace within the limits.
abbrev pub TooLargeExcludes : Type 0
TooLargeExcludes = (prog : Prog) (limits : Limits) (sends : List Sent) (k : ℕ) (before moments : List Moment) (e : Evidence)
    → IsTooLarge prog limits k before e → IsSoundTrace prog sends (before ++ moments) → KeepsLimits limits (before ++ moments) → ⊥

abbrev pub is_full : Why → Bool
is_full (Chain phase names) = false
is_full (Endless limit) = false
is_full (Full node limit) = true

-- Where true evidence shows of a transaction that there is no room for an instance, or for the file, the moments before it go on to
-- no trace within the limits that meets the rules for these sends, if they could be sent in it.
abbrev pub FullExcludes : Type 0
FullExcludes = (prog : Prog) (limits : Limits) (sends : List Sent) (k : ℕ) (before moments : List Moment) (e : Evidence) → IsTypedProg prog
    → IsTrueEvidence prog limits sends k before e → IsTrue (is_full e.why) → AreSendable prog sends (before ++ moments)
    → IsSoundTrace prog sends (before ++ moments) → KeepsLimits limits (before ++ moments) → ⊥

abbrev pub is_endless : Why → Bool
is_endless (Chain phase names) = false
is_endless (Endless limit) = true
is_endless (Full node limit) = false

-- Where true evidence shows of a transaction that as many moments as the limit are settled and one more is due, the moments before it
-- go on to no trace within the limits that meets the rules for these sends, if they could be sent in it.
abbrev pub EndlessExcludes : Type 0
EndlessExcludes = (prog : Prog) (limits : Limits) (sends : List Sent) (k : ℕ) (before moments : List Moment) (e : Evidence) → IsTypedProg prog
    → IsTrueEvidence prog limits sends k before e → IsTrue (is_endless e.why) → AreSendable prog sends (before ++ moments)
    → IsSoundTrace prog sends (before ++ moments) → KeepsLimits limits (before ++ moments) → ⊥

-- Of a transaction there is one verdict. Where there is true evidence against it, the moments before it go on to no trace within the
-- limits that meets the rules for these sends, if they could be sent in it.
abbrev pub EvidenceExcludes : Type 0
EvidenceExcludes = (prog : Prog) (limits : Limits) (sends : List Sent) (k : ℕ) (before moments : List Moment) (e : Evidence) → IsTypedProg prog
    → IsTrueEvidence prog limits sends k before e → AreSendable prog sends (before ++ moments) → IsSoundTrace prog sends (before ++ moments)
    → KeepsLimits limits (before ++ moments) → ⊥

-- Where true evidence shows of a transaction that it is endless, all true evidence over the same moments shows that, for sends that
-- could be sent in these.
abbrev pub EndlessByAll : Type 0
EndlessByAll = (prog : Prog) (limits : Limits) (sends : List Sent) (k : ℕ) (before : List Moment) (e f : Evidence) → IsTypedProg prog
    → AreSendable prog sends before → IsTrueEvidence prog limits sends k before e → IsTrueEvidence prog limits sends k before f
    → IsTrue (is_endless e.why) → IsTrue (is_endless f.why)
