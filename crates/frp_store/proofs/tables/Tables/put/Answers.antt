use Rattle.std.proofs.Common.{◌≡◌, ◌∙◌, ◌∷◌, ◌++◌, [], sym, ap, subst}
use Rattle.frp_store.specs.declared.tables.Tables.{Tables}
use Rattle.frp_store.specs.declared.change.Change.TheVariants.{Added}
use Rattle.frp_store.specs.Lists.{state_in}
use Rattle.frp_store.specs.Undo.{undo_all}
use Rattle.frp_store.specs.Kept.{AreKept}
use Rattle.frp_store.proofs.Growing.{ready_findable, ready_room, ready_kept, ready_base}
use Rattle.frp_store.proofs.tables.Tables.put.Goals as goal

pub file-requires-clause-findable : goal.file-requires-clause-findable
file-requires-clause-findable c =
    ready_findable c.args.self.now c.args.node c.args.birth.before c.args.birth.dependents c.put-place-2.new.self.items c.put-place-2.result.0 c.put-place.new.self.items c.requires.ready
    c.put-place-2.ensures.items c.put-place-2.ensures.place c.put-place.ensures.items

pub file-requires-clause-room : goal.file-requires-clause-room
file-requires-clause-room c =
    ready_room c.args.self.now c.args.node c.args.birth.before c.args.birth.dependents c.put-place-2.new.self.items c.put-place-2.result.0 c.put-place.new.self.items c.requires.ready
    c.put-place-2.ensures.items c.put-place-2.ensures.place c.put-place.ensures.items

grown : (c : goal.After-push_reserved) → c.push_reserved.new.self.items ≡ c.args.self.now.changes.items ++ Added ∷ []
grown c = c.push_reserved.ensures.items ∙ ap (λ (t : Tables). t.changes.items ++ Added ∷ []) c.file.ensures.rest

pub returns-clause-kept : goal.returns-clause-kept
returns-clause-kept c =
    subst (λ (t : Tables). AreKept c.push_reserved.new.self.items
    (record { past = t.past.items; begun = t.begun; above = t.above; first = t.first; held = t.held.items; fired = t.fired.items }) c.file.new.self.edges) (sym c.file.ensures.rest)
    (ready_kept c.args.self.now c.args.node c.args.birth.before c.args.birth.dependents c.put-place-2.new.self.items c.put-place-2.result.0 c.put-place.new.self.items c.requires.ready
    c.put-place-2.ensures.items c.put-place-2.ensures.place c.put-place.ensures.items c.push_reserved.new.self.items c.file.new.self.edges (grown c) c.file.ensures.lists c.file.ensures.wanting c.file.ensures.index)

pub returns-clause-base : goal.returns-clause-base
returns-clause-base c =
    ap (λ (t : Tables). state_in (undo_all c.push_reserved.new.self.items
    (record { past = t.past.items; begun = t.begun; above = t.above; first = t.first; held = t.held.items; fired = t.fired.items }))) c.file.ensures.rest
    ∙ ready_base c.args.self.now c.args.node c.args.birth.before c.args.birth.dependents c.put-place-2.new.self.items c.put-place-2.result.0 c.put-place.new.self.items c.requires.ready
    c.put-place-2.ensures.items c.put-place-2.ensures.place c.put-place.ensures.items c.push_reserved.new.self.items (grown c)
