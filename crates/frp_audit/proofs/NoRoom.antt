-- A transaction of which an instance without room is shown has no trace within the limits.
use Rattle.std.proofs.Common.{◌≡◌, ℕ, ◌+◌, ◌<◌, ◌≤◌, true, List, [], ◌∷◌, ◌++◌, length, refl, sym, ap, ◌∙◌, arith, append_assoc, length-append}
use Rattle.std.proofs.Common.{inl, inr}
use Rattle.frp_graph.specs.declared.prog.Prog.{Prog}
use Rattle.frp_graph.specs.declared.limits.Limits.{Limits}
use Rattle.frp_graph.specs.declared.trace.Moment.{Moment}
use Rattle.frp_graph.specs.declared.trace.Sent.{Sent}
use Rattle.frp_graph.specs.declared.evidence.Evidence.{Evidence}
use Rattle.frp_graph.specs.declared.evidence.Why.{Why}
use Rattle.frp_graph.specs.declared.evidence.Why.TheVariants.{Chain, Endless, Full}
use Rattle.frp_graph.specs.Trace.{live, sight_of}
use Rattle.frp_graph.specs.Evidence.{is_below, Shows, MeetsRules}
use Rattle.frp_graph.specs.Sends.{AreSendable}
use Rattle.frp_graph.specs.Sound.{KeepsLimits}
use Rattle.frp_graph.specs.TypedProg.{IsTypedProg}
use Rattle.frp_graph.proofs.Before.{live_append}
use Rattle.frp_audit.specs.Laws.{IsSoundTrace, is_full, FullExcludes}
use Rattle.frp_audit.proofs.Against.{no_room}
use Rattle.frp_audit.proofs.Excluded.{next, parts, happens, sound, is_sent}
use Rattle.frp_audit.proofs.TooMany.{too_large_excludes}

-- what is live after some moments is no more than what is live after more
pub live_more : (ms rest : List Moment) (m : Moment) → length (live (ms ++ m ∷ [])) ≤ length (live (ms ++ m ∷ rest))
live_more ms rest m =
    let same : (ms ++ m ∷ []) ++ rest ≡ ms ++ m ∷ rest = append_assoc ms (m ∷ []) rest in
    let all : length (live (ms ++ m ∷ rest)) ≡ length (live (ms ++ m ∷ []) ++ live rest) = ap (λ (ks : List Moment). length (live ks)) (sym same) ∙ ap length (live_append (ms ++ m ∷ []) rest) in
    let sum : length (live (ms ++ m ∷ []) ++ live rest) ≡ length (live (ms ++ m ∷ [])) + length (live rest) = simp length-append refl in
    omega arith

module _ (prog : Prog) (typed : IsTypedProg prog) (limits : Limits) (sends : List Sent) (k : ℕ) (past : List Moment) (e : Evidence) (rules : MeetsRules prog limits sends k past e)
    (trace : List Moment) (whole : IsSoundTrace prog sends trace) (sendable : AreSendable prog sends trace) (keeps : KeepsLimits limits trace) where
  over : is_full e.why ≡ true → ⊥
  over h = by e.why h rules.cause where
    by : (y : Why) → is_full y ≡ true → Shows prog sends (sight_of past e.last) e.last (is_below e.ranks e.level) limits k past e.done y → ⊥
    by (Full node limit) h shows =
        let n = next prog typed limits sends k past e rules trace whole sendable in
        let p = parts prog typed limits sends k past e rules trace whole sendable in
        let many : limits.nodes < length (live (past ++ n.moment ∷ []))
        = no_room prog typed limits sends k past e rules n.is_past n.moment n.at p.0 (happens prog typed limits sends k past e rules trace whole sendable)
        (sound prog typed limits sends k past e rules trace whole sendable).chainless (is_sent prog typed limits sends k past e rules trace whole sendable) node limit shows in
        let more = live_more past n.later n.moment in
        let same : length (live trace) ≡ length (live (past ++ n.moment ∷ n.later)) = ap (λ (ms : List Moment). length (live ms)) n.is in
        let few : length (live trace) ≤ limits.nodes = keeps.nodes in
        omega arith
    by (Chain phase names) h shows = absurd cc
    by (Endless limit) h shows = absurd cc

pub full_excludes : FullExcludes
full_excludes prog limits sends k before moments e typed shown full sendable whole keeps = elim shown [
  | inl large ↦ too_large_excludes prog limits sends k before moments e large whole keeps
  | inr rules ↦ over prog typed limits sends k (before ++ e.done) e rules (before ++ moments) whole sendable keeps full
]
