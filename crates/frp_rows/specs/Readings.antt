-- Wrong readings of the equations, each of which some worked graph refuses: its trace does not meet the reading.
use Rattle.std.specs.Prelude.{◌≡◌, ℕ, List, [], ◌∷◌, Option, Some, None, is_some, option_and_then, slice_get, if◌then◌else◌}
use Rattle.frp_base.specs.declared.val.Val.{Val}
use Rattle.frp_base.specs.declared.time.Time.{Time}
use Rattle.frp_base.specs.Time.{time_eq, parent_and_number}
use Rattle.frp_base.specs.Name.{birth}
use Rattle.frp_expr.specs.Parts.{items_of}
use Rattle.frp_graph.specs.declared.prog.Prog.{Prog}
use Rattle.frp_graph.specs.declared.trace.Node.{Node}
use Rattle.frp_graph.specs.declared.trace.Moment.{Moment}
use Rattle.frp_graph.specs.declared.shape.Shape.{Shape}
use Rattle.frp_graph.specs.declared.shape.Shape.TheVariants.{Sink, Filteropt, Merge, Snapshot, Split, Hold, Switchs, Switchc}
use Rattle.frp_graph.specs.Trace.{Sight, Each, or_else, post_in, sight_of}
use Rattle.frp_graph.specs.Applied.{call, target}
use Rattle.frp_graph.specs.declared.trace.Sent.{Sent}
use Rattle.frp_graph.specs.Sends.{sent_values}
use Rattle.frp_graph.specs.Equations.{map2, row}
use Rattle.frp_graph.specs.Moments.{AtEach}

-- A reading gives the occurrence of a node of a shape, as the equations do.
abbrev pub Reading : Type 0
Reading = Prog → List Sent → Sight → Node → Shape → Option Val

-- at each moment of the trace each live node has the occurrence that the reading gives
abbrev pub Meets : Reading → Prog → List Sent → List Moment → Type 0
Meets reading prog sends trace =
    AtEach (λ past m. Each (sight_of past m) (λ x. (sight_of past m).occ x.name ≡ reading prog sends (sight_of past m) x x.shape)) [] trace

-- a snapshot that reads the value after the step
abbrev pub snapshot_after : Reading
snapshot_after prog sends w x (Snapshot f s c) = map2 (λ p q. call prog f (p ∷ q ∷ [])) (w.occ s) (post_in w c)
snapshot_after prog sends w x s = row prog sends w x s

-- a merge that drops the right value where both fire
abbrev pub merge_left : Reading
merge_left prog sends w x (Merge f a b) = or_else (w.occ a) (w.occ b)
merge_left prog sends w x s = row prog sends w x s

-- a split that gives its first item at the time of the list
abbrev pub split_at_once : Reading
split_at_once prog sends w x (Split s) = option_and_then (λ v. slice_get (items_of v) 0) (w.occ s)
split_at_once prog sends w x s = row prog sends w x s

-- a switch that follows the new stream at the time of the step
abbrev pub switchs_at_once : Reading
switchs_at_once prog sends w x (Switchs c) = option_and_then (λ s. w.occ (target s)) (post_in w c)
switchs_at_once prog sends w x s = row prog sends w x s

-- a switch that steps to the value that the new cell had before
abbrev pub switchc_to_old : Reading
switchc_to_old prog sends w x (Switchc c) = option_and_then (λ d. if is_some (w.occ c) then w.pre (target d) else w.occ (target d)) (post_in w c)
switchc_to_old prog sends w x s = row prog sends w x s

-- a hold that misses what happens at its birth
abbrev pub hold_after_birth : Reading
hold_after_birth prog sends w x (Hold s) = if time_eq (birth x.name) w.time then None else w.occ s
hold_after_birth prog sends w x s = row prog sends w x s

-- a sink that keeps the last of several sends
abbrev pub last_of : List Val → Option Val
last_of [] = None
last_of (v ∷ vs) = or_else (last_of vs) (Some v)

abbrev pub sink_last : Reading
sink_last prog sends w x Sink = last_of (sent_values sends w.time x.name)
sink_last prog sends w x s = row prog sends w x s

-- a split that gives nothing of what happens at its birth
abbrev pub split_after_birth : Reading
split_after_birth prog sends w x (Split s) = item_after_birth (parent_and_number w.time) where
  item_after_birth : Option (Time × ℕ) → Option Val
  item_after_birth None = None
  item_after_birth (Some p) = if time_eq (birth x.name) p.0 then None else row prog sends w x (Split s)
split_after_birth prog sends w x s = row prog sends w x s

-- a stream of optional values that is given as it is
abbrev pub whole_options : Reading
whole_options prog sends w x (Filteropt s) = w.occ s
whole_options prog sends w x s = row prog sends w x s
