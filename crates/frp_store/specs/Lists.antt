-- The lists of tables, and the state that they stand for.
use Rattle.std.specs.Prelude.{ℕ, List, Option, map}
use Rattle.frp_base.specs.declared.time.Time.{Time}
use Rattle.frp_graph.specs.declared.trace.Node.{Node}
use Rattle.frp_graph.specs.declared.trace.Moment.{Moment}
use Rattle.frp_store.specs.declared.held.Held.{Held}
use Rattle.frp_store.specs.declared.tables.Tables.{Tables}
use Rattle.frp_store.specs.State.{State}

-- what tables hold, but for what depends on what and for the changes
pub record Lists : Type 0 where
  pub past : List Moment
  pub begun : Option Time
  pub above : Option ℕ
  pub first : ℕ
  pub held : List Held
  pub fired : List ℕ

abbrev pub lists_of : Tables → Lists
lists_of t = record { past = t.past.items; begun = t.begun; above = t.above; first = t.first; held = t.held.items; fired = t.fired.items }

abbrev pub nodes_of : List Held → List Node
nodes_of held = map (λ (h : Held). h.node) held

abbrev pub targets_of : List Held → List (Option ℕ)
targets_of held = map (λ (h : Held). h.target) held

-- the state that they stand for
abbrev pub state_in : Lists → State
state_in l = record {
  past = l.past;
  begun = l.begun;
  first = l.first;
  nodes = nodes_of l.held;
  occs = map (λ (h : Held). h.occ) l.held;
  targets = targets_of l.held;
}
