-- A file that makes more nodes than the limit has no trace within the limits.
use Rattle.std.proofs.Common.{◌≡◌, ◌+◌, ◌<◌, ◌≤◌, Bool, true, false, List, [], ◌∷◌, ◌++◌, length, Some, refl, ap, subst, arith, length-append}
use Rattle.std.specs.Prelude.{is_some, if◌then◌else◌}
use Rattle.frp_base.specs.declared.time.Time.{Time}
use Rattle.frp_base.specs.Time.{time_eq}
use Rattle.frp_graph.specs.declared.prog.Prog.{Prog}
use Rattle.frp_graph.specs.declared.trace.Moment.{Moment}
use Rattle.frp_graph.specs.declared.trace.Sent.{Sent}
use Rattle.frp_graph.specs.Trace.{live, moment_at}
use Rattle.frp_graph.specs.Births.{build, file_plans}
use Rattle.frp_graph.specs.Moments.{AtEach, IsMoment}
use Rattle.frp_graph.proofs.Before.{live_append}
use Rattle.frp_graph.proofs.FileBirths.{file_rises}
use Rattle.frp_graph.proofs.Lists.{time_same}
use Rattle.frp_audit.specs.Laws.{TooLargeExcludes}
use Rattle.frp_audit.proofs.Counting.{plans_fit}
use Rattle.frp_audit.proofs.Excluded.{each_at}

-- where a moment stands in a list
record IsSplit (ms : List Moment) (t : Time) : Type 0 where
  front : List Moment
  moment : Moment
  rest : List Moment
  is : ms ≡ front ++ moment ∷ rest
  at : moment.time ≡ t

split_at : (ms : List Moment) (t : Time) → is_some (moment_at ms t) ≡ true → IsSplit ms t
split_at [] t h = absurd cc
split_at (m ∷ ms) t h = by (time_eq m.time t) refl h (split_at ms t) where
  by : (b : Bool) → time_eq m.time t ≡ b → is_some (if b then Some m else moment_at ms t) ≡ true
      → (is_some (moment_at ms t) ≡ true → IsSplit ms t) → IsSplit (m ∷ ms) t
  by true e h more = record { front = []; moment = m; rest = ms; is = refl; at = time_same m.time t e }
  by false e h more = let s = more h in record { front = m ∷ s.front; moment = s.moment; rest = s.rest; is = ap (λ ks. m ∷ ks) s.is; at = s.at }

-- what is born at a moment is live after the trace
born_live : (front rest : List Moment) (m : Moment) → length m.born ≤ length (live (front ++ m ∷ rest))
born_live front rest m =
    let parts : live (front ++ m ∷ rest) ≡ live front ++ (m.born ++ live rest) = live_append front (m ∷ rest) in
    let all : length (live (front ++ m ∷ rest)) ≡ length (live front ++ (m.born ++ live rest)) = ap length parts in
    let outer : length (live front ++ (m.born ++ live rest)) ≡ length (live front) + length (m.born ++ live rest) = simp length-append refl in
    let inner : length (m.born ++ live rest) ≡ length m.born + length (live rest) = simp length-append refl in
    omega arith

-- a list of moments with the build has room for the nodes of the file
pub file_room : (prog : Prog) (sends : List Sent) (ms : List Moment) → AtEach (IsMoment prog sends) [] ms
    → is_some (moment_at ms build) ≡ true → length (file_plans prog) ≤ length (live ms)
file_room prog sends ms moments due =
    let s = split_at ms build due in
    let happens
    = each_at (IsMoment prog sends) s.front s.rest s.moment (subst (λ (ks : List Moment). AtEach (IsMoment prog sends) [] ks) s.is moments) in
    let file = happens.born_exactly.file_is_born s.at in
    let fits : length (file_plans prog) ≤ length s.moment.born = plans_fit s.moment.born (file_plans prog) (file_rises prog) file in
    let born : length s.moment.born ≤ length (live (s.front ++ s.moment ∷ s.rest)) = born_live s.front s.rest s.moment in
    let same : length (live ms) ≡ length (live (s.front ++ s.moment ∷ s.rest)) = ap (λ (ks : List Moment). length (live ks)) s.is in
    omega arith

pub too_large_excludes : TooLargeExcludes
too_large_excludes prog limits sends k before moments e large whole within =
    let fits = file_room prog sends (before ++ moments) whole.is_trace.moments (whole.is_trace.due build) in
    let few : length (live (before ++ moments)) ≤ limits.nodes = within.nodes in
    let many : limits.nodes < length (file_plans prog) = large.too_many in
    omega arith
