-- What is seen of a store between two calls, and after each of them.
use Rattle.std.specs.Prelude.{◌≡◌, ℕ, Bool, true, false, ◌<◌, ◌≤◌, Option, Some, None, length, map, take, slice_get, IfSome, if◌then◌else◌}
use Rattle.std.specs.List.Sorted.{IsStrictlySortedBy}
use Rattle.frp_base.specs.declared.name.Name.{Name}
use Rattle.frp_base.specs.declared.val.Val.{Val}
use Rattle.frp_base.specs.Name.{name_eq}
use Rattle.frp_base.specs.Time.{time_cmp}
use Rattle.frp_graph.specs.declared.trace.Node.{Node}
use Rattle.frp_graph.specs.declared.trace.Moment.{Moment}
use Rattle.frp_graph.specs.Trace.{Sight, node_in, live, stepped}
use Rattle.frp_graph.specs.Links.{are_distinct}
use Rattle.frp_store.specs.State.{State, names}
use Rattle.frp_store.specs.Calls.{IsAfter}

-- Each list has one item a place; nodes are turned to places; names differ; the nodes before those born since the moment was begun are those
-- of the trace; and where no moment is begun, no node has an occurrence.
pub record IsAligned (s : State) : Type 0 where
  pub occs : length s.occs ≡ length s.nodes
  pub targets : length s.targets ≡ length s.nodes
  pub aims : (p : ℕ) (t : Option ℕ) → slice_get s.targets p ≡ Some t → IfSome t (λ q. q < length s.nodes)
  pub distinct : are_distinct (names s.nodes) ≡ true
  pub first : s.first ≤ length s.nodes
  pub idle : s.begun ≡ None → s.first ≡ length s.nodes
  pub quiet : s.begun ≡ None → (p : ℕ) (o : Option Val) → slice_get s.occs p ≡ Some o → o ≡ None
  pub rising : IsStrictlySortedBy time_cmp (map (λ (m : Moment). m.time) s.past)
  pub later : IfSome s.begun (λ t. IsAfter t s.past)
  pub shown : (n : Name) → node_in (live s.past) n ≡ node_in (take s.first s.nodes) n

-- a node more is live, and its first value is the one before; all else is as before
pub record ShowsNode (x : Node) (v w : Sight) : Type 0 where
  pub time : w.time ≡ v.time
  pub node : (n : Name) → w.node n ≡ (if name_eq x.name n then Some x else v.node n)
  pub occ : (n : Name) → w.occ n ≡ v.occ n
  pub pre : (n : Name) → w.pre n ≡ (if name_eq x.name n then x.first else v.pre n)
  pub above : (n : Name) → w.above n ≡ v.above n

-- whether it is the node of a name
abbrev pub has_name : Option Node → Name → Bool
has_name None n = false
has_name (Some x) n = name_eq x.name n

-- the node of a place has this occurrence, or none; all else is as before
pub record ShowsOcc (x : Option Node) (o : Option Val) (v w : Sight) : Type 0 where
  pub occ : (n : Name) → w.occ n ≡ (if has_name x n then o else v.occ n)
  pub rest : w ≡ record v { occ = w.occ }

-- a cell's value before is the one that it had after; no node has an occurrence; all else is as before
pub record ShowsEnd (v w : Sight) : Type 0 where
  pub time : w.time ≡ v.time
  pub node : (n : Name) → w.node n ≡ v.node n
  pub occ : (n : Name) → w.occ n ≡ None
  pub pre : (n : Name) → w.pre n ≡ stepped (v.pre n) (v.occ n)
  pub above : (n : Name) → w.above n ≡ None
