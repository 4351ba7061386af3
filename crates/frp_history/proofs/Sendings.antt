-- The sends of a history, and of a longer one.
use Rattle.std.proofs.Common.{◌≡◌, ℕ, ◌+◌, ◌<◌, ◌≤◌, suc, Bool, true, false, List, [], ◌∷◌, ◌++◌, length, refl, sym, ap, ◌∙◌, arith, append_assoc}
use Rattle.std.specs.Prelude.{if◌then◌else◌}
use Rattle.std.specs.List.{AllByRecursion}
use Rattle.std.proofs.lemmas.List.{append-nil}
use Rattle.frp_graph.specs.declared.trace.Fact.{Fact}
use Rattle.frp_graph.specs.declared.trace.Sent.{Sent}
use Rattle.frp_history.specs.declared.history.Cmd.{Cmd}
use Rattle.frp_history.specs.declared.history.Reply.{Reply}
use Rattle.frp_history.specs.declared.history.Entry.{Entry}
use Rattle.frp_history.specs.History.{is_accepted, sent_by, sends_at, accepted_sends, sends_from, sends_of}
use Rattle.frp_base.proofs.Lists.{all_both}

-- the sends of a history with one entry more
sends_more : (k : ℕ) (es : List Entry) (e : Entry) → sends_from k (es ++ e ∷ []) ≡ sends_from k es ++ accepted_sends (k + length es) e.cmd e.reply
sends_more k [] e = append-nil (accepted_sends k e.cmd e.reply) ∙ ap (λ j. accepted_sends j e.cmd e.reply) (let z : k ≡ k + 0 = omega arith in z)
sends_more k (d ∷ es) e =
    ap (λ xs. accepted_sends k d.cmd d.reply ++ xs) (sends_more (k + 1) es e)
    ∙ sym (append_assoc (accepted_sends k d.cmd d.reply) (sends_from (k + 1) es) (accepted_sends (k + 1 + length es) e.cmd e.reply))
    ∙ ap (λ j. (accepted_sends k d.cmd d.reply ++ sends_from (k + 1) es) ++ accepted_sends j e.cmd e.reply) (let z : k + 1 + length es ≡ k + suc (length es) = omega arith in z)

pub sends_of_more : (es : List Entry) (e : Entry) → sends_of (es ++ e ∷ []) ≡ sends_of es ++ accepted_sends (length es + 1) e.cmd e.reply
sends_of_more es e = sends_more 1 es e ∙ ap (λ j. sends_of es ++ accepted_sends j e.cmd e.reply) (let z : 1 + length es ≡ length es + 1 = omega arith in z)

-- The places of sends.

module _ (P : ℕ → Type 0) (k : ℕ) (p : P k) where
  placed : (i : ℕ) (fs : List Fact) → AllByRecursion (λ s. P s.place) (sends_at k i fs)
  placed i [] = tt
  placed i (f ∷ fs) = (p, placed (i + 1) fs)

  pub accepted_placed : (cmd : Cmd) (reply : Reply) → AllByRecursion (λ s. P s.place) (accepted_sends k cmd reply)
  accepted_placed cmd reply = by (is_accepted reply) where
    by : (b : Bool) → AllByRecursion (λ s. P s.place) (if b then sends_at k 0 (sent_by cmd) else [])
    by true = placed 0 (sent_by cmd)
    by false = tt

-- what is sent at a place is of it
pub sends_here : (k : ℕ) (cmd : Cmd) (reply : Reply) → AllByRecursion (λ s. s.place ≡ k) (accepted_sends k cmd reply)
sends_here k = accepted_placed (λ j. j ≡ k) k refl

sends_early : (k n : ℕ) (es : List Entry) → k + length es ≤ n → AllByRecursion (λ s. s.place < n) (sends_from k es)
sends_early k n [] h = tt
sends_early k n (e ∷ es) h =
    all_both (λ s. s.place < n) (accepted_sends k e.cmd e.reply) (sends_from (k + 1) es) (accepted_placed (λ j. j < n) k (omega arith) e.cmd e.reply) (sends_early (k + 1) n es (omega arith))

-- the sends of a history are of the places of its entries
pub sends_before : (es : List Entry) → AllByRecursion (λ s. s.place < length es + 1) (sends_of es)
sends_before es = sends_early 1 (length es + 1) es (omega arith)
