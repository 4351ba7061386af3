use Rattle.std.proofs.Common.{◌≡◌, refl, sym, ap, ◌∙◌, subst}
use Rattle.std.specs.Prelude.{IfSome, IsTrue}
use Rattle.frp_graph.specs.declared.trace.Moment.{Moment}
use Rattle.frp_store.specs.declared.change.Change.{Change}
use Rattle.frp_store.specs.declared.change.Change.TheVariants.{Ended}
use Rattle.frp_store.specs.Lists.{Lists, lists_of, state_in}
use Rattle.frp_store.specs.Closing.{ended_lists}
use Rattle.frp_store.specs.Places.{has}
use Rattle.frp_store.specs.Undo.{undo}
use Rattle.frp_store.specs.Kept.{IsSound, AreKept}
use Rattle.frp_store.proofs.Keeping.{sound_now, begun_there}
use Rattle.frp_store.proofs.Undoing.{pushed_base}
use Rattle.frp_store.proofs.Ending.{IsEnd, ended_kept, ended_shows, ended_state, ended_undone}
use Rattle.frp_store.proofs.tables.Tables.close.Goals as goal

pub take_occs-requires-clause-distinct : goal.take_occs-requires-clause-distinct
take_occs-requires-clause-distinct c = let s = c.args.self.now in (sound_now s.changes.items (lists_of s) s.edges c.requires.kept).distinct

pub take_occs-requires-clause-listed : goal.take_occs-requires-clause-listed
take_occs-requires-clause-listed c =
    let s = c.args.self.now in
    λ p h e i. subst (λ ps. IsTrue (has ps p)) (sym c.as_slice.ensures.value) ((sound_now s.changes.items (lists_of s) s.edges c.requires.kept).listed p h e i)

old : goal.After-conclude → Lists
old c = lists_of c.args.self.now

moment : goal.After-conclude → Moment
moment c = record { time = (begun_there c.args.self.now.begun c.requires.begun).0; born = c.args.born.items; fired = c.sort_facts.new.facts.items }

sound : (c : goal.After-conclude) → IsSound (old c)
unfolding old
sound c = let s = c.args.self.now in sound_now s.changes.items (lists_of s) s.edges c.requires.kept

-- what is true of the end
end : (c : goal.After-conclude) → IsEnd (old c) c.take_occs.new.held.items (moment c) c.take_occs.new.facts.items c.take_occs.new.steps.items
unfolding old moment
end c = record {
  closed = c.take_occs.ensures;
  time = (begun_there c.args.self.now.begun c.requires.begun).1;
  rising_births = c.requires.rising;
  rising_facts = c.sort_facts.ensures.rising;
  born = c.requires.nodes;
  fired = c.sort_facts.ensures.facts;
}

-- the lists then, and the change that undoes it
lists : (c : goal.After-conclude) → lists_of c.conclude.new.self ≡ ended_lists (moment c) (record (old c) { held = c.take_occs.new.held.items })
unfolding old moment
lists c =
    let s = c.args.self.now in
    subst (λ b. IfSome b (λ t. lists_of c.conclude.new.self ≡ ended_lists (record { time = t; born = c.args.born.items; fired = c.sort_facts.new.facts.items }) (record (lists_of s) { held = c.take_occs.new.held.items })))
    (begun_there s.begun c.requires.begun).1 c.conclude.ensures.lists

change : goal.After-conclude → Change
change c = let s = c.args.self.now in Ended s.fired c.take_occs.new.steps s.above s.first

undone : (c : goal.After-conclude) → undo (change c) (ended_lists (moment c) (record (old c) { held = c.take_occs.new.held.items })) ≡ old c
unfolding old moment change
undone c = ended_undone (old c) c.take_occs.new.held.items (moment c) c.take_occs.new.facts.items c.take_occs.new.steps.items (sound c) (end c) c.args.self.now.fired.items c.take_occs.new.steps.items refl refl

pub returns-clause-kept : goal.returns-clause-kept
unfolding old moment change
returns-clause-kept c =
    let s = c.args.self.now in
    let new = c.conclude.new.self in
    subst (λ e. AreKept new.changes.items (lists_of new) e) (sym c.conclude.ensures.edges)
    (subst (λ i. AreKept new.changes.items i s.edges) (sym (lists c))
    (ended_kept (old c) c.take_occs.new.held.items (moment c) c.take_occs.new.facts.items c.take_occs.new.steps.items (sound c) (end c)
    s.changes.items new.changes.items (change c) s.edges c.conclude.ensures.changes c.requires.kept (undone c)))

pub returns-clause-now : goal.returns-clause-now
unfolding old moment
returns-clause-now c =
    let held = c.take_occs.new.held.items in
    let facts = c.take_occs.new.facts.items in
    let steps = c.take_occs.new.steps.items in (
      moment c,
      (ended_shows (old c) held (moment c) facts steps (sound c) (end c), ap state_in (lists c) ∙ ended_state (old c) held (moment c) facts steps (sound c) (end c)),
    )

pub returns-clause-base : goal.returns-clause-base
unfolding old moment change
returns-clause-base c =
    let s = c.args.self.now in
    let new = c.conclude.new.self in
    ap state_in (pushed_base s.changes.items new.changes.items (change c) (lists_of new) (lists_of s) c.conclude.ensures.changes (ap (undo (change c)) (lists c) ∙ undone c))
