-- A transaction of which more moments than the limit are shown has no trace within the limits.
use Rattle.std.proofs.Common.{◌≡◌, ℕ, suc, ◌+◌, ◌<◌, ◌≤◌, Bool, true, false, List, [], ◌∷◌, ◌++◌, length, Option, Some, None, refl, sym, ap, ◌∙◌, subst, arith, append_assoc, length-append}
use Rattle.std.proofs.Common.{inl, inr}
use Rattle.std.specs.Prelude.{is_some, if◌then◌else◌}
use Rattle.std.specs.List.{list_all}
use Rattle.std.proofs.lemmas.List.Elements.{filter-append}
use Rattle.frp_base.specs.declared.time.Time.{Time}
use Rattle.frp_base.specs.Time.{time_eq}
use Rattle.frp_base.proofs.Booleans.{both_true, is_false}
use Rattle.frp_graph.specs.declared.prog.Prog.{Prog}
use Rattle.frp_graph.specs.declared.limits.Limits.{Limits}
use Rattle.frp_graph.specs.declared.trace.Moment.{Moment}
use Rattle.frp_graph.specs.declared.trace.Sent.{Sent}
use Rattle.frp_graph.specs.declared.evidence.Evidence.{Evidence}
use Rattle.frp_graph.specs.declared.evidence.Why.{Why}
use Rattle.frp_graph.specs.declared.evidence.Why.TheVariants.{Chain, Endless, Full}
use Rattle.frp_graph.specs.Trace.{moment_at, sight_of}
use Rattle.frp_graph.specs.Evidence.{is_below, Shows, MeetsRules}
use Rattle.frp_graph.specs.Moments.{is_due, is_of_transaction, transaction}
use Rattle.frp_graph.specs.Sends.{AreSendable}
use Rattle.frp_graph.specs.Sound.{KeepsLimits}
use Rattle.frp_graph.specs.TypedProg.{IsTypedProg}
use Rattle.frp_graph.proofs.Lists.{time_same}
use Rattle.frp_audit.specs.Laws.{IsSoundTrace, is_endless, EndlessExcludes}
use Rattle.frp_audit.proofs.Pasts.{Earlier}
use Rattle.frp_audit.proofs.Dues.{at_next}
use Rattle.frp_audit.proofs.Evident as evident
use Rattle.frp_audit.proofs.Against.{earlier_e, nodes, fires}
use Rattle.frp_audit.proofs.Excluded.{next, parts, happens, sound, is_sent}
use Rattle.frp_audit.proofs.MoreDue.{due_too}

-- Counts of the moments of a transaction.

counts_found : (k : ℕ) (t : Time) (ms : List Moment) → is_of_transaction k t ≡ true → is_some (moment_at ms t) ≡ true → 0 < length (transaction k ms)
counts_found k t [] of h = absurd cc
counts_found k t (m ∷ ms) of h = by (time_eq m.time t) refl h (is_of_transaction k m.time) refl (counts_found k t ms of) where
  by : (b : Bool) → time_eq m.time t ≡ b → is_some (if b then Some m else moment_at ms t) ≡ true → (c : Bool) → is_of_transaction k m.time ≡ c
      → (is_some (moment_at ms t) ≡ true → 0 < length (transaction k ms)) → 0 < length (transaction k (m ∷ ms))
  by b e h true q more = rw q (omega arith)
  by true e h false q more = absurd (let is : is_of_transaction k m.time ≡ true = ap (is_of_transaction k) (time_same m.time t e) ∙ of in cc)
  by false e h false q more = rw q (more h)

-- moments of it and more
counts_more : (k : ℕ) (done rest : List Moment) (last : Moment) → list_all (λ m. is_of_transaction k m.time) (done ++ last ∷ []) ≡ true
    → (length (transaction k (done ++ rest)) ≡ length done + length (transaction k rest)) × (is_of_transaction k last.time ≡ true)
counts_more k [] rest last h = (let nothing : length (transaction k rest) ≡ 0 + length (transaction k rest) = omega arith in nothing, (both_true (is_of_transaction k last.time) true h).0)
counts_more k (m ∷ ms) rest last h =
    let p = both_true (is_of_transaction k m.time) (list_all (λ m. is_of_transaction k m.time) (ms ++ last ∷ [])) h in
    let of : is_of_transaction k m.time ≡ true = p.0 in
    let r = counts_more k ms rest last p.1 in
    let longer : length (transaction k (m ∷ ms ++ rest)) ≡ suc (length (transaction k (ms ++ rest))) = rw of refl in
    let more : length (transaction k (ms ++ rest)) ≡ length ms + length (transaction k rest) = r.0 in
    (omega arith, r.1)

counts_after : (k : ℕ) (before rest : List Moment) → length (transaction k rest) ≤ length (transaction k (before ++ rest))
counts_after k before rest =
    let parts : length (transaction k (before ++ rest)) ≡ length (transaction k before ++ transaction k rest)
    = ap length (filter-append (λ m. is_of_transaction k m.time) before rest) in
    let sum : length (transaction k before ++ transaction k rest) ≡ length (transaction k before) + length (transaction k rest)
    = simp length-append refl in
    omega arith

not_there : (t : Time) (ms : List Moment) (last : Moment) → moment_at (ms ++ last ∷ []) t ≡ None
    → (moment_at ms t ≡ None) × (time_eq last.time t ≡ false)
not_there t [] last h = (refl, is_false (time_eq last.time t) (λ e. let some : ◌≡◌ {A = Option Moment} (Some last) None = rw e at h in cc))
not_there t (m ∷ ms) last h = by (time_eq m.time t) h (not_there t ms last) where
  by : (b : Bool) → (if b then Some m else moment_at (ms ++ last ∷ []) t) ≡ None
      → (moment_at (ms ++ last ∷ []) t ≡ None → (moment_at ms t ≡ None) × (time_eq last.time t ≡ false))
      → ((if b then Some m else moment_at ms t) ≡ None) × (time_eq last.time t ≡ false)
  by true h f = absurd cc
  by false h f = f h

module _ (prog : Prog) (typed : IsTypedProg prog) (limits : Limits) (sends : List Sent) (k : ℕ) (before : List Moment) (e : Evidence)
    (rules : MeetsRules prog limits sends k (before ++ e.done) e)
    (trace : List Moment) (whole : IsSoundTrace prog sends trace) (sendable : AreSendable prog sends trace) (keeps : KeepsLimits limits trace) where
  abbrev past : List Moment
  past = before ++ e.done

  over : is_endless e.why ≡ true → ⊥
  over h = by e.why h rules.cause where
    by : (y : Why) → is_endless y ≡ true → Shows prog sends (sight_of past e.last) e.last (is_below e.ranks e.level) limits k past e.done y → ⊥
    by (Chain phase names) h shows = absurd cc
    by (Full node limit) h shows = absurd cc
    by (Endless limit) h shows =
        let n = next prog typed limits sends k past e rules trace whole sendable in
        let p = parts prog typed limits sends k past e rules trace whole sendable in
        let now = happens prog typed limits sends k past e rules trace whole sendable in
        let well = (sound prog typed limits sends k past e rules trace whole sendable).chainless in
        let sent = is_sent prog typed limits sends k past e rules trace whole sendable in
        let earlier : Earlier e.last.time past = earlier_e prog typed limits sends k past e rules n.is_past n.moment n.at p.0 now well sent in
        let due_here : is_due sends (past ++ n.moment ∷ n.later) shows.more ≡ true
        = due_too past n.later n.moment e.last n.at earlier p.1 (evident.once prog typed limits sends k past e rules n.is_past earlier)
        (λ j x l. let s = nodes prog typed limits sends k past e rules n.is_past n.moment n.at p.0 now well sent j x l in (s.node, s.found, s.shape))
        (fires prog typed limits sends k past e rules n.is_past n.moment n.at p.0 now well sent) sends shows.more shows.more_due in
        let there : is_some (moment_at (past ++ n.moment ∷ n.later) shows.more) ≡ true
        = subst (λ (ms : List Moment). is_some (moment_at ms shows.more) ≡ is_due sends ms shows.more) n.is (whole.is_trace.due shows.more) ∙ due_here in
        let new = not_there shows.more past e.last shows.more_new in
        let apart : time_eq n.moment.time shows.more ≡ false = ap (λ t. time_eq t shows.more) n.at ∙ new.1 in
        let after : is_some (moment_at n.later shows.more) ≡ true
        = ap is_some (sym (at_next shows.more past (n.moment ∷ n.later) new.0 ∙ rw apart refl)) ∙ there in
        let one : 0 < length (transaction k n.later) = counts_found k shows.more n.later shows.of_this after in
        let c = counts_more k e.done (n.moment ∷ n.later) e.last rules.reached.of_this in
        let of : is_of_transaction k n.moment.time ≡ true = ap (is_of_transaction k) n.at ∙ c.1 in
        let rest : length (transaction k (n.moment ∷ n.later)) ≡ suc (length (transaction k n.later)) = rw of refl in
        let all : length (transaction k trace) ≡ length (transaction k (before ++ (e.done ++ n.moment ∷ n.later)))
        = ap (λ (ms : List Moment). length (transaction k ms)) (n.is ∙ append_assoc before e.done (n.moment ∷ n.later)) in
        let more = counts_after k before (e.done ++ n.moment ∷ n.later) in
        let count : length (transaction k (e.done ++ n.moment ∷ n.later)) ≡ length e.done + length (transaction k (n.moment ∷ n.later)) = c.0 in
        let few : length (transaction k trace) ≤ limits.moments = keeps.moments k in
        let limit_is = shows.is_limit in
        let settled = shows.settled in
        omega arith

pub endless_excludes : EndlessExcludes
endless_excludes prog limits sends k before moments e typed shown endless sendable whole keeps = elim shown [
  | inl large ↦ (let none : is_endless e.why ≡ false = ap is_endless large.cause in absurd cc)
  | inr rules ↦ over prog typed limits sends k before e rules (before ++ moments) whole sendable keeps endless
]
