-- Who is held under which key, and what each listener is still to be given.
use Rattle.std.specs.Prelude.{◌≡◌, ℕ, ◌≤◌, ◌-◌, Bool, true, false, not, ◌==◌, List, [], ◌∷◌, ◌++◌, length, drop, slice_index_or, Option, Some, None, if◌then◌else◌}
use Rattle.std.specs.List.{AllByRecursion}
use Rattle.std.specs.Ordering.{is_lt}
use Rattle.frp_base.specs.declared.name.Name.{Name}
use Rattle.frp_base.specs.declared.val.Val.{Val}
use Rattle.frp_base.specs.Time.{time_cmp}
use Rattle.frp_graph.specs.declared.trace.Moment.{Moment}
use Rattle.frp_graph.specs.Trace.{occ}
use Rattle.frp_history.specs.declared.history.Key.{Key}
use Rattle.frp_history.specs.declared.history.Delivered.{Delivered}
use Rattle.frp_history.specs.Listeners.{key_eq}
use Rattle.frp_history.specs.Windows.{delivered}
use Rattle.frp_listen.specs.declared.state.ListenerState.{ListenerState}

-- The listener with a key is that of the key's slot, where it joined at the key's place.
abbrev pub joined_at : ℕ → Option ListenerState → Option ListenerState
joined_at place None = None
joined_at place (Some l) = if l.place == place then Some l else None

abbrev pub held : List (Option ListenerState) → Key → Option ListenerState
held slots key = joined_at key.place (slice_index_or slots key.slot None)

-- the slot is that of no listener that is held
abbrev pub IsFree : List (Option ListenerState) → ℕ → Type 0
IsFree slots slot = slice_index_or slots slot None ≡ None

-- this is held under the key, and all else is as before
abbrev pub Changes : List (Option ListenerState) → List (Option ListenerState) → Key → Option ListenerState → Type 0
Changes old new key l = (other : Key) → held new other ≡ (if key_eq other key then l else held old other)

-- what happened at a node at these moments
abbrev pub happened : Name → List Moment → List Delivered
happened n [] = []
happened n (m ∷ ms) = delivered m.time (occ m n) ++ happened n ms

-- What a listener is still to be given after these moments: a cell's value as it joined, and what happened after the moments that it has passed.
abbrev pub left : List Moment → ListenerState → List Delivered
left trace l = delivered (l.place ∷ []) l.first ++ happened l.node (drop l.passed trace)

abbrev pub left_of : List Moment → Option ListenerState → List Delivered
left_of trace None = []
left_of trace (Some l) = left trace l

-- who listens, to which node, and from which place on
abbrev pub who : ListenerState → ℕ × (Name × ℕ)
who l = (l.caller, (l.node, l.place))

abbrev pub is_of_another : ℕ → Option ListenerState → Bool
is_of_another caller None = false
is_of_another caller (Some l) = not (l.caller == caller)

-- one that has passed no more moments than there are; and each that is held
abbrev pub IsReached : List Moment → ListenerState → Type 0
IsReached trace l = l.passed ≤ length trace

abbrev pub AreReached : List Moment → List (Option ListenerState) → Type 0
AreReached trace slots = (key : Key) (l : ListenerState) → held slots key ≡ Some l → IsReached trace l

-- a listener that has just joined
abbrev pub joined : ℕ → Name → ℕ → Option Val → ℕ → ListenerState
joined caller node place first passed = record { caller = caller; node = node; place = place; first = first; passed = passed }

-- these moments are before, or after, the time of a place
abbrev pub AreBefore : ℕ → List Moment → Type 0
AreBefore place ms = AllByRecursion (λ m. is_lt (time_cmp m.time (place ∷ [])) ≡ true) ms

abbrev pub AreAfter : ℕ → List Moment → Type 0
AreAfter place ms = AllByRecursion (λ m. is_lt (time_cmp (place ∷ []) m.time) ≡ true) ms

-- a cell's value as the listener joined, once so many items were given, and how many of these are not that value
abbrev pub first_after : ℕ → Option Val → Option Val
first_after count first = if count == 0 then first else None

abbrev pub more_after : ℕ → Option Val → ℕ
more_after count None = count
more_after count (Some v) = count - 1
