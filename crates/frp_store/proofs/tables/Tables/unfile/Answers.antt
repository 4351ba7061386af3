use Rattle.std.proofs.Common.{◌∙◌, ◌<◌, sym, ap, subst}
use Rattle.std.specs.Prelude.{IfSome}
use Rattle.frp_store.specs.declared.held.Held.{Held}
use Rattle.frp_store.specs.declared.edges.Edges.{Edges}
use Rattle.frp_store.specs.Lists.{nodes_of}
use Rattle.frp_store.specs.Edges.{unfiled, left}
use Rattle.frp_store.proofs.Setting.{get_map}
use Rattle.frp_store.proofs.Rewiring.{left_length, target_at}
use Rattle.frp_store.proofs.Filing.{unfiled_is}
use Rattle.frp_store.proofs.tables.Tables.unfile.Goals as goal

pub leave-requires-2 : goal.leave-requires-2
leave-requires-2 c =
    let s = c.args.self.now in
    let one = left_length c.target-target.result c.args.place s.edges.lists.items c.leave.new.self.lists.items _ c.leave.ensures.lists c.requires.count in
    record { inside = subst (λ n. IfSome c.ends_of-ends.result.first (λ e. e < n)) one c.ends_of-ends.ensures.first_inside }

pub leave-requires-3 : goal.leave-requires-3
leave-requires-3 c =
    let s = c.args.self.now in
    let e = c.ends_of-ends.result in
    let one = left_length c.target-target.result c.args.place s.edges.lists.items c.leave.new.self.lists.items _ c.leave.ensures.lists c.requires.count in
    let two = left_length e.first c.args.place c.leave.new.self.lists.items c.leave-2.new.self.lists.items _ c.leave-2.ensures.lists (sym one) in
    record { inside = subst (λ n. IfSome e.second (λ e. e < n)) two c.ends_of-ends.ensures.second_inside }

pub leave_watcher-requires : goal.leave_watcher-requires
leave_watcher-requires c =
    let s = c.args.self.now in
    let e = c.ends_of-ends.result in
    let one = left_length c.target-target.result c.args.place s.edges.lists.items c.leave.new.self.lists.items _ c.leave.ensures.lists c.requires.count in
    let two = left_length e.first c.args.place c.leave.new.self.lists.items c.leave-2.new.self.lists.items _ c.leave-2.ensures.lists (sym one) in
    let three = left_length e.second c.args.place c.leave-2.new.self.lists.items c.leave-3.new.self.lists.items _ c.leave-3.ensures.lists (sym two) in
    record { inside = subst (λ n. IfSome e.watching (λ e. e < n)) three c.ends_of-ends.ensures.watching_inside }

pub returns-clause-lists : goal.returns-clause-lists
returns-clause-lists c x g =
    let s = c.args.self.now in
    let e = c.ends_of-ends in
    ap (λ (z : Edges). z.lists.items) c.leave_index.ensures.edges
    ∙ unfiled_is (nodes_of s.held.items) x c.get.result.now.node c.args.place e.result.first e.result.second e.result.watching c.leave.new.self.lists.items
    c.leave-2.new.self.lists.items c.leave-3.new.self.lists.items c.leave_watcher.new.self.lists.items
    (get_map (λ (z : Held). z.node) s.held.items c.args.place c.get.result.now c.get.ensures) g e.ensures.first e.ensures.second e.ensures.watching
    c.leave-2.ensures.lists c.leave-3.ensures.lists c.leave_watcher.ensures.lists
    ∙ ap (unfiled (nodes_of s.held.items) x c.args.place)
    (c.leave.ensures.lists ∙ ap (λ t. left t c.args.place s.edges.lists.items) (sym (target_at s.held.items c.args.place c.target-target.result c.target-target.ensures)))
