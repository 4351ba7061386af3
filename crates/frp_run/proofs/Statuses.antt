-- What each status says of the words, the input and what was written.
use Rattle.std.proofs.Common.{◌≡◌, ℕ, ◌≤◌, List, Option, Some, None, refl, subst, arith, inl, inr}
use Rattle.std.specs.Prelude.{◌⊎◌, ◌^◌, IsSome}
use Rattle.frp_io.specs.Outside.{Rose, Gave}
use Rattle.frp_run.specs.Answers.{HasRead, IsAnswerTo, IsAnswerOf, IsOutput, IsFaultyText, IsUnbuiltText, IsTooLargeText, IsRefusedAs, IsRefusedUnbuilt, GaveMore, status_of, answer_text, line_of}
use Rattle.frp_run.specs.declared.modes.Mode.{Mode}
use Rattle.frp_run.specs.declared.refused.Fault.{Fault}
use Rattle.frp_run.specs.declared.answer.Refusal.TheVariants as r
use Rattle.frp_run.specs.declared.answer.Answer.{Answer}
use Rattle.frp_run.specs.declared.answer.Answer.TheVariants as a

-- what was read is as is said otherwise too
has_read : (asked : Option Mode) (before after : Option (List ℕ)) (P Q : Mode → List ℕ → Type 0) → ((mode : Mode) (bytes : List ℕ) → P mode bytes → Q mode bytes)
    → HasRead asked before after P → HasRead asked before after Q
has_read None before after P Q f h = absurd h
has_read (Some mode) None after P Q f h = tt
has_read (Some mode) (Some bytes) after P Q f h = (h.0, h.1, f mode bytes h.2)

module _ (asked : Option Mode) (before after : Option (List ℕ)) (faults now : ℕ) (held holds : Option (List ℕ)) where
  pub said_output : (x : Answer) → IsAnswerTo asked before after faults now x → Gave held holds (answer_text x) → status_of x ≡ 0
      → HasRead asked before after (λ mode bytes. (text : List ℕ) × (IsOutput text mode bytes × Gave held holds text))
  said_output (a.Output text) h g e = has_read asked before after (IsAnswerOf (a.Output text)) _ (λ mode bytes o. (text, (o, g))) h
  said_output (a.Faulty fault line) h g e = absurd cc
  said_output (a.Refused r.Unbuilt) h g e = absurd cc
  said_output (a.Refused r.Usage) h g e = absurd cc
  said_output (a.Refused r.Read) h g e = absurd cc
  said_output (a.Refused r.Memory) h g e = absurd cc
  said_output (a.Refused r.Full) h g e = absurd cc
  said_output (a.Refused r.Size) h g e = absurd cc

  pub said_refused : (x : Answer) → IsAnswerTo asked before after faults now x → Gave held holds (answer_text x) → status_of x ≡ 1
      → ((fault : Fault) × IsRefusedAs fault asked before after held holds) ⊎ IsRefusedUnbuilt asked before after held holds
  said_refused (a.Output text) h g e = absurd cc
  said_refused (a.Faulty fault line) h g e = inl (fault, record { cause = h.1; line = subst (λ text. Gave held holds text) h.0 g })
  said_refused (a.Refused r.Unbuilt) h g e = inr (record { cause = h; line = g })
  said_refused (a.Refused r.Usage) h g e = absurd cc
  said_refused (a.Refused r.Read) h g e = absurd cc
  said_refused (a.Refused r.Memory) h g e = absurd cc
  said_refused (a.Refused r.Full) h g e = absurd cc
  said_refused (a.Refused r.Size) h g e = absurd cc

  pub said_full : (x : Answer) → IsAnswerTo asked before after faults now x → status_of x ≡ 6 → HasRead asked before after IsTooLargeText
  said_full (a.Output text) h e = absurd cc
  said_full (a.Faulty fault line) h e = absurd cc
  said_full (a.Refused r.Full) h e = h
  said_full (a.Refused r.Unbuilt) h e = absurd cc
  said_full (a.Refused r.Usage) h e = absurd cc
  said_full (a.Refused r.Read) h e = absurd cc
  said_full (a.Refused r.Memory) h e = absurd cc
  said_full (a.Refused r.Size) h e = absurd cc

  pub said_usage : (x : Answer) → IsAnswerTo asked before after faults now x → status_of x ≡ 2 → asked ≡ None
  said_usage (a.Output text) h e = absurd cc
  said_usage (a.Faulty fault line) h e = absurd cc
  said_usage (a.Refused r.Usage) h e = h.0
  said_usage (a.Refused r.Unbuilt) h e = absurd cc
  said_usage (a.Refused r.Full) h e = absurd cc
  said_usage (a.Refused r.Read) h e = absurd cc
  said_usage (a.Refused r.Memory) h e = absurd cc
  said_usage (a.Refused r.Size) h e = absurd cc

  pub said_read : (x : Answer) → IsAnswerTo asked before after faults now x → status_of x ≡ 3 → Rose faults now
  said_read (a.Output text) h e = absurd cc
  said_read (a.Faulty fault line) h e = absurd cc
  said_read (a.Refused r.Read) h e = h.1
  said_read (a.Refused r.Unbuilt) h e = absurd cc
  said_read (a.Refused r.Usage) h e = absurd cc
  said_read (a.Refused r.Full) h e = absurd cc
  said_read (a.Refused r.Memory) h e = absurd cc
  said_read (a.Refused r.Size) h e = absurd cc

  pub said_size : (x : Answer) → IsAnswerTo asked before after faults now x → status_of x ≡ 7 → GaveMore (2 ^ 20) before after
  said_size (a.Output text) h e = absurd cc
  said_size (a.Faulty fault line) h e = absurd cc
  said_size (a.Refused r.Size) h e = h.1
  said_size (a.Refused r.Unbuilt) h e = absurd cc
  said_size (a.Refused r.Usage) h e = absurd cc
  said_size (a.Refused r.Full) h e = absurd cc
  said_size (a.Refused r.Read) h e = absurd cc
  said_size (a.Refused r.Memory) h e = absurd cc

  -- where the words ask for no mode, nothing is read
  pub unasked : (x : Answer) → IsAnswerTo asked before after faults now x → asked ≡ None → (status_of x ≡ 2) × (after ≡ before)
  unasked (a.Refused r.Usage) h e = (refl, h.1)
  unasked (a.Refused r.Read) h e = absurd (let q = subst (λ (o : Option Mode). IsSome o) e h.0 in cc)
  unasked (a.Refused r.Size) h e = absurd (let q = subst (λ (o : Option Mode). IsSome o) e h.0 in cc)
  unasked (a.Refused r.Memory) h e = absurd (let q = subst (λ (o : Option Mode). IsSome o) e h in cc)
  unasked (a.Faulty fault line) h e = absurd (subst (λ (o : Option Mode). HasRead o before after (IsFaultyText fault)) e h.1)
  unasked (a.Output text) h e = absurd (subst (λ (o : Option Mode). HasRead o before after (IsOutput text)) e h)
  unasked (a.Refused r.Unbuilt) h e = absurd (subst (λ (o : Option Mode). HasRead o before after IsUnbuiltText) e h)
  unasked (a.Refused r.Full) h e = absurd (subst (λ (o : Option Mode). HasRead o before after IsTooLargeText) e h)

-- no status is above 7, and a status that has one line is written as it
pub status_few : (x : Answer) → status_of x ≤ 7
status_few (a.Output text) = omega arith
status_few (a.Faulty fault line) = omega arith
status_few (a.Refused r.Unbuilt) = omega arith
status_few (a.Refused r.Usage) = omega arith
status_few (a.Refused r.Read) = omega arith
status_few (a.Refused r.Memory) = omega arith
status_few (a.Refused r.Full) = omega arith
status_few (a.Refused r.Size) = omega arith

pub said_line : (x : Answer) (line : List ℕ) → line_of (status_of x) ≡ Some line → answer_text x ≡ line
said_line (a.Output text) line e = absurd cc
said_line (a.Faulty fault found) line e = absurd cc
said_line (a.Refused r.Unbuilt) line e = absurd cc
said_line (a.Refused r.Usage) line e = cc
said_line (a.Refused r.Read) line e = cc
said_line (a.Refused r.Memory) line e = cc
said_line (a.Refused r.Full) line e = cc
said_line (a.Refused r.Size) line e = cc
