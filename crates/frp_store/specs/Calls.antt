-- What each call makes of a state.
use Rattle.std.specs.Prelude.{◌≡◌, ℕ, List, [], ◌∷◌, ◌++◌, Option, Some, None, length, map, slice_set, IfSome}
use Rattle.std.specs.List.Sorted.{IsStrictlySortedBy}
use Rattle.std.specs.declared.cmp.Ordering.TheVariants.{Less}
use Rattle.frp_base.specs.declared.time.Time.{Time}
use Rattle.frp_base.specs.declared.name.Name.{Name}
use Rattle.frp_base.specs.declared.val.Val.{Val}
use Rattle.frp_base.specs.Time.{time_cmp}
use Rattle.frp_base.specs.Name.{name_cmp}
use Rattle.frp_graph.specs.declared.trace.Node.{Node}
use Rattle.frp_graph.specs.declared.trace.Fact.{Fact}
use Rattle.frp_graph.specs.declared.trace.Moment.{Moment}
use Rattle.frp_graph.specs.Trace.{Sight, node_in, fact_in, sight_of}
use Rattle.frp_store.specs.State.{State, last_moment, occ_in, births, sight}

-- a time comes after the last moment
abbrev pub IsAfter : Time → List Moment → Type 0
IsAfter t past = IfSome (last_moment past) (λ m. time_cmp m.time t ≡ Less)

-- a moment is begun at this time
abbrev pub begun_at : Time → State → State
begun_at t s = record s { begun = Some t }

-- a node more is live, without occurrence and turned to none
abbrev pub added : Node → State → State
added x s = record s { nodes = s.nodes ++ x ∷ []; occs = s.occs ++ None ∷ []; targets = s.targets ++ None ∷ [] }

-- the node of a place has this occurrence, or none
abbrev pub with_occ : ℕ → Option Val → State → State
with_occ p v s = record s { occs = slice_set s.occs p v }

-- the node of a place is turned to this one, or to none
abbrev pub turned : ℕ → Option ℕ → State → State
turned p to s = record s { targets = slice_set s.targets p to }

-- the moment is over
abbrev pub ended : Moment → State → State
ended m s = record s { past = s.past ++ m ∷ []; begun = None; first = length s.nodes; occs = map (λ _. None) s.nodes }

-- what is seen in one way is seen in the other
pub record SeenAlike (w v : Sight) : Type 0 where
  pub time : w.time ≡ v.time
  pub node : (n : Name) → w.node n ≡ v.node n
  pub occ : (n : Name) → w.occ n ≡ v.occ n
  pub pre : (n : Name) → w.pre n ≡ v.pre n
  pub above : (n : Name) → w.above n ≡ v.above n

-- the moment has the births and the occurrences of a state, by rising name, and shows what the state showed
pub record IsMomentOf (s : State) (m : Moment) : Type 0 where
  pub time : s.begun ≡ Some m.time
  pub rising_births : IsStrictlySortedBy name_cmp (map (λ (x : Node). x.name) m.born)
  pub rising_facts : IsStrictlySortedBy name_cmp (map (λ (f : Fact). f.node) m.fired)
  pub born : (n : Name) → node_in m.born n ≡ node_in (births s) n
  pub fired : (n : Name) → fact_in m.fired n ≡ occ_in s.nodes s.occs n
  pub shown : SeenAlike (sight s) (sight_of s.past m)

-- the moment ended, and stands in the trace
abbrev pub Ends : State → State → Type 0
Ends old new = (m : Moment) × (IsMomentOf old m × (new ≡ ended m old))
