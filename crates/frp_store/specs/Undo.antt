-- What undoes a change.
use Rattle.std.specs.Prelude.{ℕ, List, [], ◌∷◌, Option, Some, None, map}
use Rattle.frp_base.specs.declared.val.Val.{Val}
use Rattle.frp_graph.specs.declared.trace.Fact.{Fact}
use Rattle.frp_graph.specs.declared.trace.Moment.{Moment}
use Rattle.frp_graph.specs.Trace.{fact_in, or_else}
use Rattle.frp_store.specs.declared.held.Held.{Held}
use Rattle.frp_store.specs.declared.held.Step.{Step}
use Rattle.frp_store.specs.declared.change.Change.{Change}
use Rattle.frp_store.specs.declared.change.Change.TheVariants.{Began, Added, Occurred, Turned, Ended}
use Rattle.frp_store.specs.Items.{updated, but_last}
use Rattle.frp_store.specs.Lists.{Lists}
use Rattle.frp_store.specs.State.{last_moment}

abbrev pub set_occ : Option Val → Held → Held
set_occ o h = record h { occ = o }

abbrev pub set_before : Option Val → Held → Held
set_before v h = record h { before = v }

abbrev pub set_target : Option ℕ → Held → Held
set_target to h = record h { target = to }

-- each node has the occurrence that facts say, or else the one that it has
abbrev pub given : List Fact → List Held → List Held
given facts held = map (λ (h : Held). set_occ (or_else (fact_in facts h.node.name) h.occ) h) held

-- the cells have their values before again, the last step being undone first
abbrev pub unwritten : List Step → List Held → List Held
unwritten [] held = held
unwritten (s ∷ ss) held = updated s.place (set_before (Some s.value)) (unwritten ss held)

-- the moment that ended last is begun again
abbrev pub reopened : Option Moment → List ℕ → List Step → Option ℕ → ℕ → Lists → Lists
reopened None fired steps above first l = l
reopened (Some m) fired steps above first l = record {
  past = but_last l.past;
  begun = Some m.time;
  above = above;
  first = first;
  held = given m.fired (unwritten steps l.held);
  fired = fired;
}

abbrev pub undo : Change → Lists → Lists
undo Began l = record l { begun = None; above = None }
undo Added l = record l { held = but_last l.held }
undo (Occurred p) l = record l { held = updated p (set_occ None) l.held; fired = but_last l.fired }
undo (Turned p target) l = record l { held = updated p (set_target target) l.held }
undo (Ended fired steps above first) l = reopened (last_moment l.past) fired.items steps.items above first l

-- the oldest change is undone last
abbrev pub undo_all : List Change → Lists → Lists
undo_all [] l = l
undo_all (c ∷ cs) l = undo c (undo_all cs l)
