-- What holds of each moment with those before it, where a moment is added.
use Rattle.std.proofs.Common.{List, [], ◌∷◌, ◌++◌, sym, append_assoc, subst}
use Rattle.std.proofs.lemmas.List.{append-nil}
use Rattle.frp_graph.specs.declared.trace.Moment.{Moment}
use Rattle.frp_graph.specs.Moments.{AtEach}

module _ (P : List Moment → Moment → Type 0) where
  pub each_more : (past ms : List Moment) (m : Moment) → AtEach P past ms → P (past ++ ms) m → AtEach P past (ms ++ m ∷ [])
  each_more past [] m h p = (subst (λ k. P k m) (append-nil past) p, tt)
  each_more past (k ∷ ms) m h p = (h.0, each_more (past ++ k ∷ []) ms m h.1 (subst (λ k. P k m) (sym (append_assoc past (k ∷ []) ms)) p))

  pub each_front : (past ms : List Moment) (m : Moment) → AtEach P past (ms ++ m ∷ []) → AtEach P past ms
  each_front past [] m h = tt
  each_front past (k ∷ ms) m h = (h.0, each_front (past ++ k ∷ []) ms m h.1)

  pub each_last : (past ms : List Moment) (m : Moment) → AtEach P past (ms ++ m ∷ []) → P (past ++ ms) m
  each_last past [] m h = subst (λ k. P k m) (sym (append-nil past)) h.0
  each_last past (k ∷ ms) m h = subst (λ k. P k m) (append_assoc past (k ∷ []) ms) (each_last (past ++ k ∷ []) ms m h.1)
