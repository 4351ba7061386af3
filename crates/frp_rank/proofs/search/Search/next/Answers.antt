use Rattle.std.proofs.Common.{◌≡◌, ◌<◌, length, get_or, ◌∙◌, sym, ap, subst, arith}
use Rattle.std.proofs.lemmas.Option.{get_or_from_slice_get}
use Rattle.frp_rank.specs.declared.visit.Visit.{Visit}
use Rattle.frp_rank.specs.Graph.{live_links}
use Rattle.frp_rank.specs.Search.{visit_at, no_visit, LeadsOn}
use Rattle.frp_rank.proofs.Filing.{read_at}
use Rattle.frp_rank.proofs.Visiting.{Found, found, few_visits}
use Rattle.frp_rank.proofs.search.Search.next.Goals as goal

pub get-slot-requires : goal.get-slot-requires
get-slot-requires c = (found c.args.self.now c.args.slots.now.items c.args.visits.now c.args.place c.requires.search c.requires.visited).inside

pub offset_bounds-visits-slot : goal.offset_bounds-visits-slot
offset_bounds-visits-slot c =
    let e : get_or c.args.slots.now.items c.args.place 0 ≡ c.get-slot.result.now = get_or_from_slice_get c.args.slots.now.items c.args.place _ 0 c.get-slot.ensures in
    let slot = (found c.args.self.now c.args.slots.now.items c.args.visits.now c.args.place c.requires.search c.requires.visited).slot in
    let few = few_visits c.args.self.now c.args.slots.now.items c.args.visits.now c.requires.search in
    let most = c.requires.able.few in
    omega arith

pub bounds-visits-slot : goal.bounds-visits-slot
bounds-visits-slot c =
    let e : get_or c.args.slots.now.items c.args.place 0 ≡ c.get-slot.result.now = get_or_from_slice_get c.args.slots.now.items c.args.place _ 0 c.get-slot.ensures in
    subst (λ i. i < length c.args.visits.now) e (found c.args.self.now c.args.slots.now.items c.args.visits.now c.args.place c.requires.search c.requires.visited).slot

pub returns : goal.returns
returns c =
    let e : get_or c.args.slots.now.items c.args.place 0 ≡ c.get-slot.result.now = get_or_from_slice_get c.args.slots.now.items c.args.place _ 0 c.get-slot.ensures in
    let f = found c.args.self.now c.args.slots.now.items c.args.visits.now c.args.place c.requires.search c.requires.visited in
    let leads = rw e at f.leads in
    let place = rw e at f.place in
    subst (λ p. LeadsOn (live_links c.args.self.now.edges.now.items) c.args.self.now.from c.args.visits.now (record { place = p; through = (visit_at c.args.visits.now c.get-slot.result.now).through })) place leads
