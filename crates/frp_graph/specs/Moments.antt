-- Which times have a moment, and when a trace meets the equations.
use Rattle.std.specs.Prelude.{◌≡◌, ℕ, Bool, false, not, ◌||◌, ◌==◌, nat_lt, List, [], ◌∷◌, ◌++◌, Option, Some, None, is_some, option_and_then, IsTrue, map, length, filter, ⊤}
use Rattle.std.specs.List.{AllByRecursion, list_any}
use Rattle.std.specs.List.Sorted.{IsStrictlySortedBy}
use Rattle.std.specs.Ordering.{is_gt}
use Rattle.frp_base.specs.declared.time.Time.{Time}
use Rattle.frp_base.specs.declared.val.Val.{Val, out-Val}
use Rattle.frp_base.specs.Time.{time_eq, time_cmp, parent_and_number}
use Rattle.frp_base.specs.Name.{name_cmp}
use Rattle.frp_expr.specs.Parts.{items_in}
use Rattle.frp_graph.specs.declared.trace.Node.{Node}
use Rattle.frp_graph.specs.declared.trace.Fact.{Fact}
use Rattle.frp_graph.specs.declared.trace.Moment.{Moment}
use Rattle.frp_graph.specs.declared.trace.Sent.{Sent}
use Rattle.frp_graph.specs.declared.prog.Prog.{Prog}
use Rattle.frp_graph.specs.declared.shape.Shape.{Shape}
use Rattle.frp_graph.specs.Trace.{Sight, Each, live, moment_at, occ, sight_of}
use Rattle.frp_graph.specs.Roles.{split_source}
use Rattle.frp_graph.specs.Equations.{MeetsEquation}
use Rattle.frp_graph.specs.Births.{build}
use Rattle.frp_graph.specs.FirstValues.{AreExactly}

-- Due are the build, the time of each send, and child i of a moment where a live split's source has an item i.

-- how many items a node of this shape has to give of what happened at a moment; only a split has children
abbrev pub items_to_split : Moment → Shape → ℕ
items_to_split m shape = count (option_and_then (occ m) (split_source shape)) where
  count : Option Val → ℕ
  count None = 0
  count (Some v) = length (items_in (out-Val v))

-- the nodes that are live at a time
abbrev pub live_at : List Moment → Time → List Node
live_at trace t = live (filter (λ m. not (is_gt (time_cmp m.time t))) trace)

abbrev pub splits_at : List Moment → Time → ℕ → Option Moment → Bool
splits_at trace u i None = false
splits_at trace u i (Some m) = list_any (λ x. nat_lt i (items_to_split m x.shape)) (live_at trace u)

abbrev pub is_child_due : List Moment → Option (Time × ℕ) → Bool
is_child_due trace None = false
is_child_due trace (Some p) = splits_at trace p.0 p.1 (moment_at trace p.0)

abbrev pub is_due : List Sent → List Moment → Time → Bool
is_due sends trace t = time_eq build t || list_any (λ s. time_eq (s.place ∷ []) t) sends || is_child_due trace (parent_and_number t)

-- the transaction of a time is its first number: whether a time is of transaction k
abbrev pub is_of_transaction : ℕ → Time → Bool
is_of_transaction k [] = false
is_of_transaction k (n ∷ ns) = n == k

-- the moments of transaction k, and how many they are
abbrev pub transaction : ℕ → List Moment → List Moment
transaction k trace = filter (λ m. is_of_transaction k m.time) trace

abbrev pub moments_of : ℕ → List Moment → ℕ
moments_of k trace = length (transaction k trace)

-- What happens at a time, seen so, is what the program has where these are the sends: what is born is what is made, every
-- equation holds, and only live nodes fire.
pub record Happens (prog : Prog) (sends : List Sent) (w : Sight) (born : List Node) (fired : List Fact) : Type 0 where
  pub born_exactly : AreExactly prog w born
  pub equations : Each w (MeetsEquation prog sends w)
  pub facts_of_live : AllByRecursion (λ f. IsTrue (is_some (w.node f.node))) fired
  pub born_rise : IsStrictlySortedBy name_cmp (map (λ x. x.name) born)
  pub fired_rise : IsStrictlySortedBy name_cmp (map (λ f. f.node) fired)

-- Moment m, after the moments before it, is one that the program has.
abbrev pub IsMoment : Prog → List Sent → List Moment → Moment → Type 0
IsMoment prog sends past m = Happens prog sends (sight_of past m) m.born m.fired

-- each moment, with those before it
abbrev pub AtEach : (List Moment → Moment → Type 0) → List Moment → List Moment → Type 0
AtEach P past [] = ⊤
AtEach P past (m ∷ ms) = P past m × AtEach P (past ++ m ∷ []) ms

-- The trace of a program for these sends: its moments are exactly those that are due, in order, and at each of them
-- every equation holds.
pub record IsTrace (prog : Prog) (sends : List Sent) (trace : List Moment) : Type 0 where
  pub rising : IsStrictlySortedBy time_cmp (map (λ m. m.time) trace)
  pub due : (t : Time) → is_some (moment_at trace t) ≡ is_due sends trace t
  pub moments : AtEach (IsMoment prog sends) [] trace
