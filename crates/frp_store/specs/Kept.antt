-- How a graph is kept: what is true of its tables between two calls.
use Rattle.std.specs.Prelude.{◌≡◌, ℕ, Bool, true, false, ◌<◌, ◌≤◌, List, [], Option, Some, None, option_and_then, is_some, length, map, take, drop, slice_get, IsTrue, IfSome}
use Rattle.std.specs.List.{AllByRecursion}
use Rattle.std.specs.List.Sorted.{IsStrictlySortedBy}
use Rattle.std.specs.BTreeMap.{BTreeMap}
use Rattle.frp_base.specs.declared.name.Name.{Name}
use Rattle.frp_base.specs.declared.time.Time.{Time}
use Rattle.frp_base.specs.Name.{name_eq, name_cmp}
use Rattle.frp_base.specs.Time.{time_cmp, parent}
use Rattle.frp_graph.specs.declared.trace.Node.{Node}
use Rattle.frp_graph.specs.declared.trace.Fact.{Fact}
use Rattle.frp_graph.specs.declared.trace.Moment.{Moment}
use Rattle.frp_graph.specs.Trace.{node_in, live, moment_at}
use Rattle.frp_graph.specs.Links.{are_distinct}
use Rattle.frp_store.specs.declared.held.Held.{Held}
use Rattle.frp_store.specs.declared.edges.Dependents.{Dependents}
use Rattle.frp_store.specs.declared.edges.Edges.{Edges}
use Rattle.frp_store.specs.declared.tables.Tables.{Tables}
use Rattle.frp_store.specs.declared.change.Change.{Change}
use Rattle.frp_store.specs.State.{State, names, place_in, pre_in}
use Rattle.frp_store.specs.Calls.{IsAfter}
use Rattle.frp_store.specs.Dependents.{dependents_of}
use Rattle.frp_store.specs.Places.{has}
use Rattle.frp_store.specs.Edges.{AreLinked, IsIndexed, IsWanted}
use Rattle.frp_store.specs.Lists.{Lists, lists_of, nodes_of, targets_of, state_in}
use Rattle.frp_store.specs.Undo.{undo_all}

abbrev pub state_of : Tables → State
state_of t = state_in (lists_of t)

-- as things were at the last commit
abbrev pub base_of : Tables → State
base_of t = state_in (undo_all t.changes.items (lists_of t))

-- the number of the moment at the parent of the time
abbrev pub IsAbove : Option Time → List Moment → Option ℕ → Type 0
IsAbove None past above = above ≡ None
IsAbove (Some t) past None = option_and_then (λ u. moment_at past u) (parent t) ≡ None
IsAbove (Some t) past (Some i) = (m : Moment) × (slice_get past i ≡ Some m) × (option_and_then (λ u. moment_at past u) (parent t) ≡ Some m)

-- a moment of this number is the one at a time; where there is no number, there is none
abbrev pub FindsMoment : List Moment → Time → Option ℕ → Type 0
FindsMoment past t None = moment_at past t ≡ None
FindsMoment past t (Some i) = (m : Moment) × (slice_get past i ≡ Some m) × (moment_at past t ≡ Some m)

-- the facts of a moment stand by name
abbrev pub HasRisingFacts : Moment → Type 0
HasRisingFacts m = IsStrictlySortedBy name_cmp (map (λ (f : Fact). f.node) m.fired)

-- what is true of the lists
pub record IsSound (l : Lists) : Type 0 where
  pub first : l.first ≤ length l.held
  pub idle : l.begun ≡ None → l.first ≡ length l.held
  pub quiet : l.begun ≡ None → l.fired ≡ []
  pub listed : (p : ℕ) (h : Held) → slice_get l.held p ≡ Some h → IsTrue (is_some h.occ) → IsTrue (has l.fired p)
  pub inside : AllByRecursion (λ p. p < length l.held) l.fired
  pub before : (p : ℕ) (h : Held) → slice_get l.held p ≡ Some h → h.before ≡ pre_in (state_in l) h.node.name
  pub aims : (p : ℕ) (h : Held) → slice_get l.held p ≡ Some h → IfSome h.target (λ q. q < length l.held)
  pub distinct : are_distinct (names (nodes_of l.held)) ≡ true
  pub rising : IsStrictlySortedBy time_cmp (map (λ (m : Moment). m.time) l.past)
  pub facts : AllByRecursion HasRisingFacts l.past
  pub later : IfSome l.begun (λ t. IsAfter t l.past)
  pub shown : (n : Name) → node_in (live l.past) n ≡ node_in (take l.first (nodes_of l.held)) n
  pub above : IsAbove l.begun l.past l.above

-- whether a node of this name stands at a place
abbrev pub is_named : Option Held → Name → Bool
is_named None n = false
is_named (Some h) n = name_eq h.node.name n

abbrev pub stands_at : List Held → ℕ → Name → Bool
stands_at held p n = is_named (slice_get held p) n

-- where nodes are found by their names
pub record IsFindable (nodes : List Node) (index : BTreeMap Name ℕ) : Type 0 where
  pub distinct : are_distinct (names nodes) ≡ true
  pub indexed : (n : Name) → IsIndexed index n (place_in nodes n)

-- there is room for all dependents of each node
abbrev pub HasRoom : List Dependents → Lists → Type 0
HasRoom ds l = (e : ℕ) (d : Dependents) → slice_get ds e ≡ Some d → length (dependents_of (state_in l) e) ≤ d.nodes.room

-- What is true of lists with these changes, and of those that are reached while changes are undone.
pub record AreKept (changes : List Change) (l : Lists) (edges : Edges) : Type 0 where
  pub sound : (k : ℕ) → IsSound (undo_all (drop k changes) l)
  pub linked : AreLinked edges (nodes_of l.held) (targets_of l.held)
  pub wanted : (k : ℕ) → IsWanted edges.wanting.items (nodes_of (undo_all (drop k changes) l).held)
  pub room : (k : ℕ) → HasRoom edges.lists.items (undo_all (drop k changes) l)

-- what is true of the tables between two calls
abbrev pub IsKept : Tables → Type 0
IsKept t = AreKept t.changes.items (lists_of t) t.edges

-- what is true of them while the last of these changes is undone
abbrev pub IsKeptBy : List Change → Tables → Type 0
IsKeptBy changes t = AreKept changes (lists_of t) t.edges
