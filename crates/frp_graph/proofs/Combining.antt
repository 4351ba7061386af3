-- What one more send changes of what a sink has.
use Rattle.std.proofs.Common.{◌≡◌, ℕ, Bool, true, false, List, [], ◌∷◌, ◌++◌, Some, refl, sym, ap, ◌∙◌}
use Rattle.std.specs.Prelude.{not, IsTrue}
use Rattle.std.specs.List.{AllByRecursion}
use Rattle.std.proofs.lemmas.List.{append-nil}
use Rattle.frp_base.specs.declared.time.Time.{Time}
use Rattle.frp_base.specs.declared.name.Name.{Name}
use Rattle.frp_base.specs.declared.val.Val.{Val}
use Rattle.frp_graph.specs.declared.trace.Sent.{Sent}
use Rattle.frp_graph.specs.declared.prog.Prog.{Prog}
use Rattle.frp_graph.specs.Applied.{call}
use Rattle.frp_graph.specs.Sends.{sent_values, folded, combined, join_of}
use Rattle.frp_graph.specs.Laws.{is_sent_at, IsCombined}
use Rattle.frp_graph.proofs.Lists.{name_eq-same, time_eq-same}
use Rattle.frp_graph.proofs.Sending.{values_joined}
use Rattle.frp_base.proofs.Booleans.{not_true}

-- Values of one sink.

module _ (prog : Prog) (code : ℕ) where
  folded_next : (v w : Val) (vs : List Val) → folded prog code v (vs ++ w ∷ []) ≡ call prog (record { code = code; kept = [] }) (folded prog code v vs ∷ w ∷ [])
  folded_next v w [] = refl
  folded_next v w (u ∷ vs) = folded_next (call prog (record { code = code; kept = [] }) (v ∷ u ∷ [])) w vs

  combined_next : (v w : Val) (vs : List Val) → combined prog (Some code) vs ≡ Some v → combined prog (Some code) (vs ++ w ∷ []) ≡ Some (call prog (record { code = code; kept = [] }) (v ∷ w ∷ []))
  combined_next v w [] h = absurd cc
  combined_next v w (u ∷ []) h = let e : u ≡ v = cc in ap (λ (z : Val). Some (call prog (record { code = code; kept = [] }) (z ∷ w ∷ []))) e
  combined_next v w (u ∷ t ∷ vs) h =
      let e : folded prog code u (t ∷ vs) ≡ v = cc in
      ap Some (folded_next u w (t ∷ vs)) ∙ ap (λ (z : Val). Some (call prog (record { code = code; kept = [] }) (z ∷ w ∷ []))) e

-- Sends.

values_apart : (sends : List Sent) (t : Time) (n : Name) → AllByRecursion (λ r. IsTrue (not (is_sent_at t n r))) sends → sent_values sends t n ≡ []
values_apart [] t n h = refl
values_apart (r ∷ sends) t n h = let e : is_sent_at t n r ≡ false = not_true (is_sent_at t n r) h.0 in rw e (values_apart sends t n h.1)

value_here : (s : Sent) → sent_values (s ∷ []) (s.place ∷ []) s.sink ≡ s.value ∷ []
value_here s = rw (time_eq-same (s.place ∷ []), name_eq-same s.sink) refl

module _ (prog : Prog) (sends : List Sent) (s : Sent) where
  values_next : sent_values (sends ++ s ∷ []) (s.place ∷ []) s.sink ≡ sent_values sends (s.place ∷ []) s.sink ++ s.value ∷ []
  values_next = values_joined sends (s ∷ []) (s.place ∷ []) s.sink ∙ ap (λ vs. sent_values sends (s.place ∷ []) s.sink ++ vs) (value_here s)

pub sends_are_combined : (prog : Prog) (sends : List Sent) (s : Sent) → IsCombined prog sends s
sends_are_combined prog sends s = record {
  first = λ h. ap (combined prog (join_of prog s.sink)) (values_next prog sends s ∙ ap (λ vs. vs ++ s.value ∷ []) (values_apart sends (s.place ∷ []) s.sink h));
  later = λ v code h j.
      ap (combined prog (join_of prog s.sink)) (values_next prog sends s) ∙ ap (λ o. combined prog o (sent_values sends (s.place ∷ []) s.sink ++ s.value ∷ [])) j
      ∙ combined_next prog code v s.value (sent_values sends (s.place ∷ []) s.sink) (ap (λ o. combined prog o (sent_values sends (s.place ∷ []) s.sink)) (sym j) ∙ h);
  elsewhere = λ t n h.
      ap (combined prog (join_of prog n)) (values_joined sends (s ∷ []) t n ∙ ap (λ vs. sent_values sends t n ++ vs) (values_apart (s ∷ []) t n (h, tt)) ∙ append-nil (sent_values sends t n));
}
