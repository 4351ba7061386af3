-- A text with a program is answered with its output, where nothing fails and memory is there.
use Rattle.std.proofs.Common.{◌≡◌, ℕ, ◌+◌, ◌<◌, ◌≤◌, length, List, Option, Some, None, refl, ap, ◌∙◌, subst, arith, inl, inr, length-append}
use Rattle.std.specs.Prelude.{◌⊎◌, Ok, Err}
use Rattle.frp_io.specs.Outside.{Rose, Took}
use Rattle.frp_graph.specs.Births.{size_of}
use Rattle.frp_graph.specs.Limits.{program_limits}
use Rattle.frp_run.specs.Texts.{TextOutcome, understood}
use Rattle.frp_run.specs.Answers.{HasRead, IfRead, IsAnswerTo, IsFaultyText, IsUnbuiltText, IsTooLargeText, HasProgram, refusal_status, status_of}
use Rattle.frp_run.specs.declared.modes.Mode.{Mode}
use Rattle.frp_run.specs.declared.refused.Fault.{Fault}
use Rattle.frp_run.specs.declared.refused.Refused.{Refused}
use Rattle.frp_run.specs.declared.refused.Refused.TheVariants as why
use Rattle.frp_run.specs.declared.understood.Understood.{Understood}
use Rattle.frp_run.specs.declared.answer.Refusal.{Refusal}
use Rattle.frp_run.specs.declared.answer.Refusal.TheVariants as r
use Rattle.frp_run.specs.declared.answer.Answer.{Answer}
use Rattle.frp_run.specs.declared.answer.Answer.TheVariants as a

-- what a source gave is no longer than what it had
gave_of : (left : List ℕ) (after : Option (List ℕ)) (xs : List ℕ) → Took (Some left) after xs → length xs ≤ length left
gave_of left None xs t = absurd t
gave_of left (Some rest) xs t = let e : length left ≡ length xs + length rest = ap length t ∙ length-append xs rest in omega arith

-- an outcome is one
same_ok : {A : Type 0} (o : TextOutcome A) (x y : A) → o ≡ Ok x → o ≡ Ok y → x ≡ y
same_ok (Ok z) x y e q = cc
same_ok (Err w) x y e q = absurd cc

not_both : {A : Type 0} (o : TextOutcome A) (x : A) (why : Refused) → o ≡ Ok x → o ≡ Err why → ⊥
not_both (Ok y) x why e q = absurd cc
not_both (Err y) x why e q = absurd cc

module _ (mode : Mode) (before after : Option (List ℕ)) (faults now : ℕ) (v : HasProgram mode before) where
  -- what holds of what was read holds of the bytes that there were
  read_of : (P : Mode → List ℕ → Type 0) → HasRead (Some mode) before after P → P mode v.bytes
  read_of P h = (subst (λ o. IfRead o after (P mode)) v.told h).2

  complete_refusal : (x : Refusal) → IsAnswerTo (Some mode) before after faults now (a.Refused x) → (Rose faults now → ⊥) → refusal_status x ≡ 5
  complete_refusal r.Unbuilt h n = absurd (not_both (understood mode v.bytes) v.source why.Unbuilt v.means (read_of IsUnbuiltText h))
  complete_refusal r.Usage h n = absurd cc
  complete_refusal r.Read h n = absurd (n h.1)
  complete_refusal r.Memory h n = refl
  complete_refusal r.Full h n = absurd (full_not (read_of IsTooLargeText h)) where
    full_not : IsTooLargeText mode v.bytes → ⊥
    full_not f =
        let same : v.source ≡ f.0 = same_ok (understood mode v.bytes) v.source f.0 v.means f.1.0 in
        let few : size_of f.0.typed.prog.body.lines ≤ program_limits.nodes = subst (λ (u : Understood). size_of u.typed.prog.body.lines ≤ program_limits.nodes) same v.few_nodes in
        let many : program_limits.nodes < size_of f.0.typed.prog.body.lines = f.1.1.too_large in
        omega arith
  complete_refusal r.Size h n =
      let l = gave_of v.bytes after h.1.bytes (subst (λ o. Took o after h.1.bytes) v.told h.1.taken) in
      let m = h.1.more in
      let s = v.is_small in
      absurd (omega arith)

  pub complete_read : (x : Answer) → IsAnswerTo (Some mode) before after faults now x → (Rose faults now → ⊥) → (status_of x ≡ 0) ⊎ (status_of x ≡ 5)
  complete_read (a.Output text) h n = inl refl
  complete_read (a.Faulty fault line) h n = absurd (not_both (understood mode v.bytes) v.source (why.Fault fault) v.means (read_of (IsFaultyText fault) h.1))
  complete_read (a.Refused x) h n = inr (complete_refusal x h n)

pub complete_answer : (asked : Option Mode) (before after : Option (List ℕ)) (faults now : ℕ) (x : Answer) → IsAnswerTo asked before after faults now x
    → (mode : Mode) → asked ≡ Some mode → HasProgram mode before → (Rose faults now → ⊥) → (status_of x ≡ 0) ⊎ (status_of x ≡ 5)
complete_answer asked before after faults now x h mode e v n = complete_read mode before after faults now v x (subst (λ (o : Option Mode). IsAnswerTo o before after faults now x) e h) n
