use Rattle.std.proofs.Common.{◌≡◌, ◌∙◌, ◌<◌, ◌≤◌, length, sym, ap, subst, arith}
use Rattle.std.specs.Prelude.{slice_get, IfSome, if◌then◌else◌}
use Rattle.frp_store.specs.declared.held.Held.{Held}
use Rattle.frp_store.specs.declared.edges.Edges.{Edges}
use Rattle.frp_store.specs.Places.{PlaceList, with_place}
use Rattle.frp_store.specs.Lists.{nodes_of}
use Rattle.frp_store.specs.Dependents.{own_links, watched}
use Rattle.frp_store.specs.Edges.{joined, end_at, HasRoomFor, HasRoomForWatcher, HasRoomToFile}
use Rattle.frp_store.proofs.Rising.{length_with}
use Rattle.frp_store.proofs.Setting.{get_map}
use Rattle.frp_store.proofs.Rewiring.{length_joined}
use Rattle.frp_store.proofs.Filing.{filed_is, wanting_is}
use Rattle.frp_store.proofs.tables.Tables.file.Goals as goal

pub join-requires-2-clause-inside : goal.join-requires-2-clause-inside
join-requires-2-clause-inside c =
    let s = c.args.self.now in
    subst (λ n. IfSome c.ends_of-ends.result.second (λ e. e < n))
    (sym (ap length c.join.ensures.lists ∙ length_joined c.ends_of-ends.result.first c.args.place s.edges.lists.items ∙ c.requires.count)) c.ends_of-ends.ensures.second_inside

pub join-requires-2-clause-room : goal.join-requires-2-clause-room
join-requires-2-clause-room c =
    let s = c.args.self.now in
    let nodes = nodes_of s.held.items in
    let x = c.get.result.now.node in
    let p = c.args.place in
    let room : HasRoomToFile nodes x p s.edges.lists.items = c.requires.room x (get_map (λ (z : Held). z.node) s.held.items p c.get.result.now c.get.ensures) in
    subst (λ e. HasRoomFor e p c.join.new.self.lists.items) (sym c.ends_of-ends.ensures.second)
    (subst (HasRoomFor (end_at nodes (slice_get (own_links x.shape) 1)) p) (sym (c.join.ensures.lists ∙ ap (λ e. joined e p s.edges.lists.items) c.ends_of-ends.ensures.first)) room.second)

pub join_watcher-requires-clause-room : goal.join_watcher-requires-clause-room
join_watcher-requires-clause-room c =
    let s = c.args.self.now in
    let nodes = nodes_of s.held.items in
    let x = c.get.result.now.node in
    let p = c.args.place in
    let room : HasRoomToFile nodes x p s.edges.lists.items = c.requires.room x (get_map (λ (z : Held). z.node) s.held.items p c.get.result.now c.get.ensures) in
    subst (λ e. HasRoomForWatcher e p c.join-2.new.self.lists.items) (sym c.ends_of-ends.ensures.watching)
    (subst (HasRoomForWatcher (end_at nodes (slice_get (watched x.shape) 0)) p)
    (sym (c.join-2.ensures.lists ∙ ap (joined c.ends_of-ends.result.second p) (c.join.ensures.lists ∙ ap (λ e. joined e p s.edges.lists.items) c.ends_of-ends.ensures.first)
    ∙ ap (λ e. joined e p (joined (end_at nodes (slice_get (own_links x.shape) 0)) p s.edges.lists.items)) c.ends_of-ends.ensures.second))
    room.watching)

wanting : (c : goal.After-insert-arg-1) → c.join_watcher.new.self.wanting ≡ c.args.self.now.edges.wanting
wanting c = ap (λ (e : Edges). e.wanting) c.join_watcher.ensures.rest ∙ ap (λ (e : Edges). e.wanting) c.join-2.ensures.rest ∙ ap (λ (e : Edges). e.wanting) c.join.ensures.rest

pub insert-requires : goal.insert-requires
insert-requires c =
    let w = c.args.self.now.edges.wanting in
    record { room = subst (λ (l : PlaceList). length (with_place c.args.place l.items) ≤ l.room) (sym (wanting c)) (let a = c.requires.wanting in let b = length_with c.args.place w.items in omega arith) }

pub returns-then-ends-clause-lists : goal.returns-then-ends-clause-lists
returns-then-ends-clause-lists c x g =
    let s = c.args.self.now in
    let e = c.ends_of-ends in
    filed_is (nodes_of s.held.items) x c.get.result.now.node c.args.place e.result.first e.result.second e.result.watching s.edges.lists.items _ _ _
    (get_map (λ (z : Held). z.node) s.held.items c.args.place c.get.result.now c.get.ensures) g e.ensures.first e.ensures.second e.ensures.watching c.join.ensures.lists c.join-2.ensures.lists c.join_watcher.ensures.lists

pub returns-else-ends-clause-lists : goal.returns-else-ends-clause-lists
returns-else-ends-clause-lists c x g =
    let s = c.args.self.now in
    let e = c.ends_of-ends in
    filed_is (nodes_of s.held.items) x c.get.result.now.node c.args.place e.result.first e.result.second e.result.watching s.edges.lists.items _ _ _
    (get_map (λ (z : Held). z.node) s.held.items c.args.place c.get.result.now c.get.ensures) g e.ensures.first e.ensures.second e.ensures.watching c.join.ensures.lists c.join-2.ensures.lists c.join_watcher.ensures.lists

pub returns-then-ends-clause-wanting : goal.returns-then-ends-clause-wanting
returns-then-ends-clause-wanting c x g =
    let s = c.args.self.now in
    let w = s.edges.wanting in
    let same : c.join_watcher.new.self.wanting ≡ w =
    ap (λ (e : Edges). e.wanting) c.join_watcher.ensures.rest ∙ ap (λ (e : Edges). e.wanting) c.join-2.ensures.rest ∙ ap (λ (e : Edges). e.wanting) c.join.ensures.rest in
    wanting_is (nodes_of s.held.items) x c.get.result.now.node c.args.place c.ends_of-ends.result.wants w.items c.insert.new.self.items
    (get_map (λ (z : Held). z.node) s.held.items c.args.place c.get.result.now c.get.ensures) g c.ends_of-ends.ensures.wants
    (c.insert.ensures.items ∙ ap (λ (l : PlaceList). with_place c.args.place l.items) same ∙ ap (λ b. if b then with_place c.args.place w.items else w.items) (sym c.if-ends.true))

pub returns-else-ends-clause-wanting : goal.returns-else-ends-clause-wanting
returns-else-ends-clause-wanting c x g =
    let s = c.args.self.now in
    let w = s.edges.wanting in
    let same : c.join_watcher.new.self.wanting ≡ w =
    ap (λ (e : Edges). e.wanting) c.join_watcher.ensures.rest ∙ ap (λ (e : Edges). e.wanting) c.join-2.ensures.rest ∙ ap (λ (e : Edges). e.wanting) c.join.ensures.rest in
    wanting_is (nodes_of s.held.items) x c.get.result.now.node c.args.place c.ends_of-ends.result.wants w.items c.join_watcher.new.self.wanting.items
    (get_map (λ (z : Held). z.node) s.held.items c.args.place c.get.result.now c.get.ensures) g c.ends_of-ends.ensures.wants
    (ap (λ (l : PlaceList). l.items) same ∙ ap (λ b. if b then with_place c.args.place w.items else w.items) (sym c.if-ends.false))
