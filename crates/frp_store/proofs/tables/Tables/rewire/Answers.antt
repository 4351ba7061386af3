use Rattle.std.proofs.Common.{◌≡◌, ◌∙◌, ◌<◌, ◌∷◌, ◌++◌, [], length, sym, ap, subst}
use Rattle.std.specs.Prelude.{IfSome}
use Rattle.frp_store.specs.declared.change.Change.TheVariants.{Turned}
use Rattle.frp_store.specs.declared.edges.Edges.{Edges}
use Rattle.frp_store.specs.declared.tables.Tables.{Tables}
use Rattle.frp_store.specs.Closing.{at, held_target}
use Rattle.frp_store.specs.Edges.{unlinked}
use Rattle.frp_store.specs.Lists.{lists_of, nodes_of, state_in}
use Rattle.frp_store.specs.Undo.{undo_all}
use Rattle.frp_store.specs.Kept.{AreKept}
use Rattle.frp_store.proofs.Keeping.{sound_now}
use Rattle.frp_store.proofs.Growing.{length_nodes}
use Rattle.frp_store.proofs.Rewiring.{aim_inside, spare_room, kept_roomier, turned_state, rewired_kept, rewired_base}
use Rattle.frp_store.proofs.tables.Tables.rewire.Goals as goal

pub returns-in_err-reserve-2-clause-kept : goal.returns-in_err-reserve-2-clause-kept
returns-in_err-reserve-2-clause-kept c =
    let s = c.args.self.now in
    let r = c.in_err-reserve-2.ensures in
    kept_roomier s.changes.items c.reserve.new.self.items (lists_of s) s.edges c.reserve-2.new.self c.in_ok-reserve.ensures.items c.requires.kept r.roomier
    (ap (λ (e : Edges). e.wanting.items) r.rest) (ap (λ (e : Edges). e.index) r.rest)

pub turn-target-requires-clause-from : goal.turn-target-requires-clause-from
turn-target-requires-clause-from c = let s = c.args.self.now in aim_inside (lists_of s) c.args.place (sound_now s.changes.items (lists_of s) s.edges c.requires.kept)

pub turn-target-requires-clause-room : goal.turn-target-requires-clause-room
turn-target-requires-clause-room c =
    let s = c.args.self.now in
    spare_room c.args.to (unlinked (nodes_of s.held.items) c.args.place (at held_target s.held.items c.args.place)) c.args.place c.reserve-2.new.self.lists.items c.in_ok-reserve-2.ensures.ok

inside : (c : goal.After-push_reserved) → c.args.place < length c.args.self.now.held.items
inside c = subst (λ n. c.args.place < n) (length_nodes c.args.self.now.held.items) c.requires.place

grown : (c : goal.After-push_reserved) → c.push_reserved.new.self.items ≡ c.args.self.now.changes.items ++ Turned c.args.place c.turn-target.result ∷ []
grown c =
    let last = Turned c.args.place c.turn-target.result in
    c.push_reserved.ensures.items ∙ ap (λ (t : Tables). t.changes.items ++ last ∷ []) c.turn-target.ensures.rest ∙ ap (λ l. l ++ last ∷ []) c.in_ok-reserve.ensures.items

pub returns-clause-kept : goal.returns-clause-kept
returns-clause-kept c =
    let s = c.args.self.now in
    let r = c.in_ok-reserve-2.ensures in
    let n = c.turn-target.ensures in
    subst (λ (t : Tables). AreKept c.push_reserved.new.self.items
    (record { past = t.past.items; begun = t.begun; above = t.above; first = t.first; held = t.held.items; fired = t.fired.items }) c.turn-target.new.self.edges) (sym n.rest)
    (rewired_kept s c.args.place c.args.to c.turn-target.result c.turn-target.new.self.held.items (inside c) n.from n.held c.push_reserved.new.self.items c.reserve-2.new.self.lists.items
    c.turn-target.new.self.edges c.requires.kept (subst (λ n. IfSome c.args.to (λ q. q < n)) (length_nodes s.held.items) c.requires.to) r.roomier r.ok n.lists
    (ap (λ (e : Edges). e.wanting) n.edges ∙ ap (λ (e : Edges). e.wanting) r.rest) (ap (λ (e : Edges). e.index) n.edges ∙ ap (λ (e : Edges). e.index) r.rest) (grown c))

pub returns-clause-now : goal.returns-clause-now
returns-clause-now c =
    let s = c.args.self.now in
    let n = c.turn-target.ensures in
    ap (λ (t : Tables). state_in (record { past = t.past.items; begun = t.begun; above = t.above; first = t.first; held = t.held.items; fired = t.fired.items })) n.rest
    ∙ turned_state (lists_of s) c.args.place c.args.to c.turn-target.new.self.held.items n.held

pub returns-clause-base : goal.returns-clause-base
returns-clause-base c =
    let s = c.args.self.now in
    let n = c.turn-target.ensures in
    ap (λ (t : Tables). state_in (undo_all c.push_reserved.new.self.items
    (record { past = t.past.items; begun = t.begun; above = t.above; first = t.first; held = t.held.items; fired = t.fired.items }))) n.rest
    ∙ rewired_base s c.args.place c.args.to c.turn-target.result c.turn-target.new.self.held.items (inside c) n.from n.held c.push_reserved.new.self.items (grown c)
