use Rattle.std.proofs.Common.{◌<◌, ◌≤◌, length, sym, ap, subst, refl, arith}
use Rattle.frp_store.specs.declared.edges.Edges.{Edges}
use Rattle.frp_store.specs.declared.tables.Tables.{Tables}
use Rattle.frp_store.specs.Lists.{lists_of}
use Rattle.frp_store.specs.Kept.{AreKept}
use Rattle.frp_store.proofs.Items.{got}
use Rattle.frp_store.proofs.Rewiring.{aim_inside, back_inside, back_sound, rewired_room, rewired_back, past_kept}
use Rattle.frp_store.proofs.tables.Tables.turn_back.Goals as goal

inside : (c : goal.After-turn-arg-1) → c.args.place < length c.args.self.now.held.items
inside c = subst (λ n. c.args.place < n) c.len.ensures c.if-place-len.true

pub turn-requires-clause-from : goal.turn-requires-clause-from
turn-requires-clause-from c = let s = c.args.self.now in aim_inside (lists_of s) c.args.place (back_sound s.changes.items (lists_of s) s.edges c.args.place c.args.target c.requires.kept)

pub turn-requires-clause-to : goal.turn-requires-clause-to
turn-requires-clause-to c =
    let s = c.args.self.now in
    let h = got s.held.items c.args.place (inside c) in
    back_inside s.changes.items (lists_of s) s.edges c.args.place c.args.target h.0 c.requires.kept h.1

pub turn-requires-clause-room : goal.turn-requires-clause-room
turn-requires-clause-room c =
    let s = c.args.self.now in
    rewired_room s c.args.place c.args.target _ _ (inside c) refl refl s.changes.items c.requires.kept

pub returns-then-place-len-clause-kept : goal.returns-then-place-len-clause-kept
returns-then-place-len-clause-kept c =
    let s = c.args.self.now in
    let n = c.turn.ensures in
    let place : c.args.place < length s.held.items = subst (λ n. c.args.place < n) c.len.ensures c.if-place-len.true in
    subst (λ (t : Tables). AreKept t.changes.items (lists_of t) c.turn.new.self.edges) (sym n.rest)
    (rewired_back s c.args.place c.args.target c.turn.result c.turn.new.self.held.items place n.from n.held c.turn.new.self.edges s.changes.items c.requires.kept n.lists
    (ap (λ (e : Edges). e.wanting) n.edges) (ap (λ (e : Edges). e.index) n.edges))

past : (c : goal.Else-place-len) → length c.args.self.now.held.items ≤ c.args.place
past c = let a = c.if-place-len.false in let b = c.len.ensures in omega (arith, a, b)

pub returns-else-place-len-clause-kept : goal.returns-else-place-len-clause-kept
returns-else-place-len-clause-kept c = let s = c.args.self.now in (past_kept s.changes.items (lists_of s) s.edges c.args.place c.args.target c.requires.kept (past c)).0

pub returns-else-place-len-clause-lists : goal.returns-else-place-len-clause-lists
returns-else-place-len-clause-lists c = let s = c.args.self.now in (past_kept s.changes.items (lists_of s) s.edges c.args.place c.args.target c.requires.kept (past c)).1
