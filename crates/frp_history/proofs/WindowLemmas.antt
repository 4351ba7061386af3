-- The window that is seen before a place.
use Rattle.std.proofs.Common.{◌≡◌, ℕ, ◌≤◌, Bool, true, false, cond, List, [], ◌∷◌, ◌++◌, refl, sym, ap, ◌∙◌}
use Rattle.std.specs.Prelude.{◌&&◌, if◌then◌else◌}
use Rattle.std.specs.Ordering.{is_lt}
use Rattle.frp_base.specs.declared.time.Time.{Time}
use Rattle.frp_base.specs.declared.name.Name.{Name}
use Rattle.frp_base.specs.Time.{time_cmp}
use Rattle.frp_graph.specs.declared.trace.Moment.{Moment}
use Rattle.frp_graph.specs.Trace.{occ, moments_before, value_after}
use Rattle.frp_graph.proofs.Before.{before, before_few}
use Rattle.frp_history.specs.declared.history.Delivered.{Delivered}
use Rattle.frp_history.specs.Windows.{delivered, items_after, first_item, window}
use Rattle.frp_history.specs.Laws.{between}

-- what a moment gives between two times, where it is before the second, and where it isn't
ended : (a : Bool) (xs : List Delivered) → (if a && true then xs else []) ≡ (if a then xs else [])
ended true xs = refl
ended false xs = refl

ended_none : (a : Bool) (xs : List Delivered) → (if a && false then xs else []) ≡ []
ended_none true xs = refl
ended_none false xs = refl

module _ (from : Time) (d : ℕ) (n : Name) where
  items_end : (ms : List Moment) → items_after from n (moments_before (d ∷ []) ms) ≡ between from (d ∷ []) n ms
  items_end [] = refl
  items_end (m ∷ ms) = by (before d m.time) (items_end ms) where
    by : (b : Bool) → items_after from n (moments_before (d ∷ []) ms) ≡ between from (d ∷ []) n ms
        → items_after from n (cond b (m ∷ moments_before (d ∷ []) ms) (moments_before (d ∷ []) ms))
        ≡ (if is_lt (time_cmp from m.time) && b then delivered m.time (occ m n) else []) ++ between from (d ∷ []) n ms
    by true h = λ i. sym (ended (is_lt (time_cmp from m.time)) (delivered m.time (occ m n))) i ++ h i
    by false h = h ∙ ap (λ xs. xs ++ between from (d ∷ []) n ms) (sym (ended_none (is_lt (time_cmp from m.time)) (delivered m.time (occ m n))))

pub windows_end : (trace : List Moment) (n : Name) (j d : ℕ) → j ≤ d → window (moments_before (d ∷ []) trace) n j ≡ first_item trace n (j ∷ []) ++ between (j ∷ []) (d ∷ []) n trace
windows_end trace n j d l = λ i. delivered (j ∷ []) (value_after (before_few d trace j l i) n) ++ items_end (j ∷ []) d n trace i
