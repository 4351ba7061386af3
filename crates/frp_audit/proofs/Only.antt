-- Against a moment that the program has, with no closed chain and with few nodes, only an end of moments can be shown at its time.
use Rattle.std.proofs.Common.{◌≡◌, ℕ, ◌<◌, ◌≤◌, true, List, [], ◌∷◌, ◌++◌, length, refl, arith}
use Rattle.frp_graph.specs.declared.prog.Prog.{Prog}
use Rattle.frp_graph.specs.declared.limits.Limits.{Limits}
use Rattle.frp_graph.specs.declared.trace.Moment.{Moment}
use Rattle.frp_graph.specs.declared.trace.Sent.{Sent}
use Rattle.frp_graph.specs.declared.evidence.Evidence.{Evidence}
use Rattle.frp_graph.specs.declared.evidence.Why.{Why}
use Rattle.frp_graph.specs.declared.evidence.Why.TheVariants.{Chain, Endless, Full}
use Rattle.frp_graph.specs.Trace.{live, sight_of}
use Rattle.frp_graph.specs.Evidence.{is_below, Shows, MeetsRules}
use Rattle.frp_graph.specs.Links.{IsChainless}
use Rattle.frp_graph.specs.Moments.{IsMoment}
use Rattle.frp_graph.specs.TypedProg.{IsTypedProg}
use Rattle.frp_audit.specs.Laws.{is_endless}
use Rattle.frp_audit.proofs.Pasts.{Earlier, IsPast}
use Rattle.frp_audit.proofs.OneTrace.{AreSent}
use Rattle.frp_audit.proofs.Against.{no_chain, no_room}

module _ (prog : Prog) (typed : IsTypedProg prog) (limits : Limits) (sends : List Sent) (k : ℕ) (past : List Moment) (e : Evidence)
    (rules : MeetsRules prog limits sends k past e)
    (is_past : IsPast prog past) (m : Moment) (time : m.time ≡ e.last.time) (earlier : Earlier m.time past) (happens : IsMoment prog sends past m)
    (chainless : IsChainless (sight_of past m)) (sent : AreSent prog sends past m.time) (few : length (live (past ++ m ∷ [])) ≤ limits.nodes) where
  pub only_endless : is_endless e.why ≡ true
  only_endless = by e.why rules.cause where
    by : (y : Why) → Shows prog sends (sight_of past e.last) e.last (is_below e.ranks e.level) limits k past e.done y → is_endless y ≡ true
    by (Endless limit) shows = refl
    by (Chain phase names) shows =
        absurd (no_chain prog typed limits sends k past e rules is_past m time earlier happens chainless sent phase names shows.closed)
    by (Full node limit) shows =
        let many : limits.nodes < length (live (past ++ m ∷ []))
        = no_room prog typed limits sends k past e rules is_past m time earlier happens chainless sent node limit shows in
        absurd (omega arith)
