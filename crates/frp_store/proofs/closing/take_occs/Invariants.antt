use Rattle.std.proofs.Common.{◌≤◌, ◌+◌, take, length, vec_len, vec_capacity}
use Rattle.frp_store.proofs.Taking.{IsClosing}
use Rattle.frp_store.proofs.closing.take_occs.Given as goal

abbrev pub invariant-loop-closing : goal.invariant-loop-closing
invariant-loop-closing l = record {
  closing : IsClosing l.fn.held.items l.held.items (take (vec_len l.closings) l.fired) l.closings.items l.facts.items l.steps.items;
  inside : vec_len l.closings ≤ length l.fired;
  facts_fit : vec_len l.facts + vec_len l.closings ≤ vec_capacity l.facts;
  steps_fit : vec_len l.steps + vec_len l.closings ≤ vec_capacity l.steps;
}

abbrev pub decreases-loop-closing : goal.decreases-loop-closing
decreases-loop-closing l = vec_len l.closings
