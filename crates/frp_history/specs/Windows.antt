-- What a listener is given: its window.
use Rattle.std.specs.Prelude.{ℕ, List, [], ◌∷◌, ◌++◌, Option, Some, None, if◌then◌else◌}
use Rattle.std.specs.Ordering.{is_lt}
use Rattle.frp_base.specs.declared.time.Time.{Time}
use Rattle.frp_base.specs.declared.name.Name.{Name}
use Rattle.frp_base.specs.declared.val.Val.{Val}
use Rattle.frp_base.specs.Time.{time_cmp}
use Rattle.frp_graph.specs.declared.trace.Moment.{Moment}
use Rattle.frp_graph.specs.Trace.{occ, moments_before, value_after}
use Rattle.frp_history.specs.declared.history.Delivered.{Delivered}

abbrev pub delivered : Time → Option Val → List Delivered
delivered t None = []
delivered t (Some v) = record { time = t; value = v } ∷ []

-- what happened at a node at a moment, where that is after a time
abbrev pub item_after : Time → Name → Moment → List Delivered
item_after from n m = if is_lt (time_cmp from m.time) then delivered m.time (occ m n) else []

-- the same for each moment
abbrev pub items_after : Time → Name → List Moment → List Delivered
items_after from n [] = []
items_after from n (m ∷ ms) = item_after from n m ++ items_after from n ms

-- the value of a cell after the moments before a time, as an item of that time; a stream has none
abbrev pub first_item : List Moment → Name → Time → List Delivered
first_item trace n t = delivered t (value_after (moments_before t trace) n)

-- The window, after these moments, of a listener that joined node n at place j: a cell's value as it joined, and then all
-- that happened at the node.
abbrev pub window : List Moment → Name → ℕ → List Delivered
window trace n j = first_item trace n (j ∷ []) ++ items_after (j ∷ []) n trace
