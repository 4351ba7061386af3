use Rattle.std.proofs.Common.{◌≡◌, ◌<◌, ℕ, List, Bool, true, length, get_or, refl, sym, ap, ◌∙◌, subst, arith}
use Rattle.frp_rank.specs.declared.edge.Edge.{Edge}
use Rattle.frp_rank.specs.declared.graph.Graph.{Graph}
use Rattle.frp_rank.specs.declared.plan.Plan.{Plan}
use Rattle.frp_rank.specs.declared.plan.Plan.TheVariants.{Open}
use Rattle.frp_rank.specs.Chain.{is_linked, with_link}
use Rattle.frp_rank.specs.Order.{Raises}
use Rattle.frp_rank.specs.Graph.{net_of, order_of, live_links}
use Rattle.frp_rank.specs.Plans.{IsPlan, FitsOrder, AreInside, written}
use Rattle.frp_rank.proofs.Linking.{there, not_there, raises_again, fits_raises, link_here, plan_fits}
use Rattle.frp_rank.proofs.graph.Graph.raise.Goals as goal

pub returns-then-is_live-clause-raised : goal.returns-then-is_live-clause-raised
returns-then-is_live-clause-raised c =
    let s = c.args.self.now in
    raises_again (order_of (net_of s)) c.args.from c.args.to c.requires.kept.now.ordered
    (there s.edges.items c.args.from c.args.to c.find-found.result c.is_live.result c.find-found.ensures c.is_live.ensures.none c.is_live.ensures.some c.if-is_live.true)

pub link-requires-clause-lower : goal.link-requires-clause-lower
link-requires-clause-lower c =
    let s = c.args.self.now in
    let plan : IsPlan (record { ranks = s.ranks.items; links = live_links c.reserve.new.self.items }) c.args.from c.args.to (Open c.in-Open.writes) = subst (IsPlan _ c.args.from c.args.to) c.in-Open.is c.in_ok-chain.ensures.plan in
    let fits : FitsOrder (order_of (net_of s)) c.args.from c.args.to c.write_ranks.new.self.ranks.items =
    plan_fits s.ranks.items c.plan.new.self.ranks.items c.write_ranks.new.self.ranks.items s.edges.items c.reserve.new.self.items c.args.from c.args.to c.in-Open.writes.items c.as_slice.result.now plan.1
    c.in_ok-reserve.ensures.items c.write_ranks.ensures.ranks (ap (λ (g : Graph). g.ranks.items) c.in_ok-chain.ensures.rest) c.as_slice.ensures.value in
    fits.lower c.args.from c.args.to (link_here (is_linked (live_links s.edges.items)) c.args.from c.args.to c.args.from c.args.to refl refl)

pub returns-in-Closed-clause-again : goal.returns-in-Closed-clause-again
returns-in-Closed-clause-again c = λ h.
    let s = c.args.self.now in
    absurd (not_there s.edges.items (length s.ranks.items) c.args.from c.args.to c.find-found.result c.is_live.result c.requires.kept.now.filed c.find-found.ensures c.is_live.ensures.some c.if-is_live.false h)

pub returns-in_ok-reserve-in-Open-clause-raised : goal.returns-in_ok-reserve-in-Open-clause-raised
returns-in_ok-reserve-in-Open-clause-raised c =
    let s = c.args.self.now in
    let plan : IsPlan (record { ranks = s.ranks.items; links = live_links c.reserve.new.self.items }) c.args.from c.args.to (Open c.in-Open.writes) = subst (IsPlan _ c.args.from c.args.to) c.in-Open.is c.in_ok-chain.ensures.plan in
    let fits : FitsOrder (order_of (net_of s)) c.args.from c.args.to c.write_ranks.new.self.ranks.items =
    plan_fits s.ranks.items c.plan.new.self.ranks.items c.write_ranks.new.self.ranks.items s.edges.items c.reserve.new.self.items c.args.from c.args.to c.in-Open.writes.items c.as_slice.result.now plan.1
    c.in_ok-reserve.ensures.items c.write_ranks.ensures.ranks (ap (λ (g : Graph). g.ranks.items) c.in_ok-chain.ensures.rest) c.as_slice.ensures.value in
    let edges : c.write_ranks.new.self.edges.items ≡ s.edges.items = ap (λ (g : Graph). g.edges.items) c.write_ranks.ensures.rest ∙ ap (λ (g : Graph). g.edges.items) c.in_ok-chain.ensures.rest ∙ c.in_ok-reserve.ensures.items in
    fits_raises (order_of (net_of s)) (order_of (net_of c.link.new.self)) c.args.from c.args.to
    (subst (λ r. FitsOrder (order_of (net_of s)) c.args.from c.args.to r.items) (sym c.link.ensures.ranks) fits)
    c.link.ensures.kept.now.ordered
    (λ a b. c.link.ensures.links a b ∙ ap (λ (l : List Edge). with_link (is_linked (live_links l)) c.args.from c.args.to a b) edges)

pub returns-in_ok-reserve-in-Open-clause-again : goal.returns-in_ok-reserve-in-Open-clause-again
returns-in_ok-reserve-in-Open-clause-again c = λ h.
    let s = c.args.self.now in
    absurd (not_there s.edges.items (length s.ranks.items) c.args.from c.args.to c.find-found.result c.is_live.result c.requires.kept.now.filed c.find-found.ensures c.is_live.ensures.some c.if-is_live.false h)
