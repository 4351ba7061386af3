-- A transaction of which a closed chain is shown has no trace.
use Rattle.std.proofs.Common.{◌≡◌, ℕ, true, false, List, [], ◌∷◌, ◌++◌, map, sym, ap, ◌∙◌, subst, append_assoc}
use Rattle.std.proofs.Common.{inl, inr}
use Rattle.std.specs.List.Sorted.{IsStrictlySortedBy}
use Rattle.frp_base.specs.Time.{time_cmp}
use Rattle.frp_graph.specs.declared.prog.Prog.{Prog}
use Rattle.frp_graph.specs.declared.limits.Limits.{Limits}
use Rattle.frp_graph.specs.declared.trace.Moment.{Moment}
use Rattle.frp_graph.specs.declared.trace.Sent.{Sent}
use Rattle.frp_graph.specs.declared.evidence.Evidence.{Evidence}
use Rattle.frp_graph.specs.declared.evidence.Why.{Why}
use Rattle.frp_graph.specs.declared.evidence.Why.TheVariants.{Chain, Endless, Full}
use Rattle.frp_graph.specs.Trace.{sight_of}
use Rattle.frp_graph.specs.Evidence.{is_below, Shows, MeetsRules}
use Rattle.frp_graph.specs.Moments.{AtEach, IsMoment}
use Rattle.frp_graph.specs.Sends.{AreSendable}
use Rattle.frp_graph.specs.Sound.{IsSoundAfter}
use Rattle.frp_graph.specs.TypedProg.{IsTypedProg}
use Rattle.frp_graph.proofs.Before.{each_beginning}
use Rattle.frp_graph.proofs.Each.{each_last}
use Rattle.frp_audit.specs.Laws.{IsSoundTrace, is_chain, ChainsExclude}
use Rattle.frp_audit.proofs.Dues.{Later, rise_parts}
use Rattle.frp_audit.proofs.Pasts.{Earlier, IsPast}
use Rattle.frp_audit.proofs.OneTrace.{AreSent, sent_typed}
use Rattle.frp_audit.proofs.Beginnings.{AreUntil, GoesOn, trace_from, goes_on}
use Rattle.frp_audit.proofs.Against.{no_chain}

-- what true evidence has reached: the moments until its last time
pub reached_until : (prog : Prog) (limits : Limits) (sends : List Sent) (k : ℕ) (past : List Moment) (e : Evidence)
    → MeetsRules prog limits sends k past e
    → AreUntil prog sends e.last.time past
reached_until prog limits sends k past e rules = record {
  rising = rules.reached.rising;
  due = rules.reached.due;
  moments = rules.reached.moments;
  sound = rules.reached.sound;
}

-- what holds of each moment of a list with those before it
pub each_at : (P : List Moment → Moment → Type 0) (ms rest : List Moment) (m : Moment) → AtEach P [] (ms ++ m ∷ rest) → P ms m
each_at P ms rest m h = each_last P [] ms m (each_beginning P [] (ms ++ m ∷ []) rest (subst (λ (ks : List Moment). AtEach P [] ks) (sym (append_assoc ms (m ∷ []) rest)) h))

module _ (prog : Prog) (typed : IsTypedProg prog) (limits : Limits) (sends : List Sent) (k : ℕ) (past : List Moment) (e : Evidence) (rules : MeetsRules prog limits sends k past e)
    (trace : List Moment) (whole : IsSoundTrace prog sends trace) (sendable : AreSendable prog sends trace) where
  pub until : AreUntil prog sends e.last.time past
  until = reached_until prog limits sends k past e rules

  pub sent : (ms later : List Moment) (m : Moment) → IsPast prog ms → ms ++ m ∷ later ≡ trace → Earlier m.time ms → Later m.time later
      → AreSent prog sends ms m.time
  sent ms later m is_past is a b = sent_typed prog typed sends trace sendable ms later m is_past is a b

  -- the trace goes on with a moment at the last time
  pub next : GoesOn prog typed sends e.last.time trace past (trace_from prog sends e.last.time trace whole) until sent
  next =
      goes_on prog typed sends e.last.time trace past (trace_from prog sends e.last.time trace whole) until sent
      (λ d. whole.is_trace.due e.last.time ∙ d) rules.reached.last_due

  pub parts : Earlier next.moment.time past × Later next.moment.time next.later
  parts = rise_parts past next.later next.moment (subst (λ (ms : List Moment). IsStrictlySortedBy time_cmp (map (λ m. m.time) ms)) next.is whole.is_trace.rising)

  pub happens : IsMoment prog sends past next.moment
  happens = each_at (IsMoment prog sends) past next.later next.moment (subst (λ (ms : List Moment). AtEach (IsMoment prog sends) [] ms) next.is whole.is_trace.moments)

  pub sound : IsSoundAfter prog past next.moment
  sound = each_at (IsSoundAfter prog) past next.later next.moment (subst (λ (ms : List Moment). AtEach (IsSoundAfter prog) [] ms) next.is whole.sound)

  pub is_sent : AreSent prog sends past next.moment.time
  is_sent = sent past next.later next.moment next.is_past (sym next.is) parts.0 parts.1

  refuted : is_chain e.why ≡ true → ⊥
  refuted h = by e.why h rules.cause where
    by : (y : Why) → is_chain y ≡ true → Shows prog sends (sight_of past e.last) e.last (is_below e.ranks e.level) limits k past e.done y → ⊥
    by (Chain phase names) h shows =
        no_chain prog typed limits sends k past e rules next.is_past next.moment next.at parts.0 happens sound.chainless is_sent phase names shows.closed
    by (Endless limit) h shows = absurd cc
    by (Full node limit) h shows = absurd cc

pub chains_exclude : ChainsExclude
chains_exclude prog limits sends k before moments e typed shown chain sendable whole = elim shown [
  | inl large ↦ (let none : is_chain e.why ≡ false = ap is_chain large.cause in cc)
  | inr rules ↦ refuted prog typed limits sends k (before ++ e.done) e rules (before ++ moments) whole sendable chain
]
