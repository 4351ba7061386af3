-- the passes that a room is made with
use Rattle.std.proofs.Common.{◌≡◌, ℕ, suc, ◌+◌, ◌-◌, ◌<◌, List, [], ◌∷◌, ◌++◌, length, refl, sym, ap, ◌∙◌, subst, arith, length-append}
use Rattle.std.specs.Prelude.{slice_index_or}
use Rattle.std.proofs.Math.Seq.{get_or-append_seam}
use Rattle.std.proofs.Math.ListN.{get_or-append}
use mathlib.Core.Logic.{dite}
use native.Mathlib.Decide.{ℕ_discrete}
use Rattle.frp_gate.specs.declared.entry.Entry.{Entry}
use Rattle.frp_gate.specs.declared.pass.Pass.{Pass}
use Rattle.frp_gate.specs.declared.view.Start.{Start}
use Rattle.frp_gate.specs.Views.{SeatState, other_passes, first_pass}
use Rattle.frp_gate.specs.Calls.{Began, IsResting, first_state, seen_of, mine_of}
use Rattle.frp_gate.specs.Passes.{number, AreNumbered, IsFirst}
use Rattle.frp_gate.specs.Seats.{IsFresh}

module _ {M : Type 0} where
  pub numbered_more : (passes : List (Pass M)) (pass : Pass M) → AreNumbered passes → pass.number ≡ length passes
      → AreNumbered (passes ++ pass ∷ [])
  numbered_more passes pass numbered next i d below = dite (ℕ_discrete i (length passes))
      (λ (last : i ≡ length passes). ap (λ (k : ℕ). number (slice_index_or (passes ++ pass ∷ []) k d)) last
      ∙ ap (λ (p : Pass M). p.number) (get_or-append_seam passes pass [] d) ∙ next ∙ sym last)
      (λ apart. let long = length-append passes (pass ∷ []) in let low : i < length passes = omega arith in
      ap (λ (p : Pass M). p.number) (get_or-append passes (pass ∷ []) d i low) ∙ numbered i d low)

module _ {M C R : Type 0} (history : M → List (Entry C R)) (start : Start M) where
  -- the first number of a block is split off
  pub first_rests : (n size : ℕ) (m : SeatState M) → m ≡ (first_pass (first_state history start n size).0, [])
      → IsResting n m
  first_rests n size m is = subst (IsResting n) (sym is) (refl, ((refl, refl, refl), refl, refl, refl))

  pub last_rests : (n : ℕ) (m : SeatState M) → m ≡ first_state history start n 1 → IsResting n m
  last_rests n m is = subst (IsResting n) (sym is) (refl, ((refl, refl, refl), refl, refl, refl))

  pub rest_next : (n callers : ℕ)
      → (
        other_passes (first_state history start n (callers - n)).0,
        (first_state history start n (callers - n)).1,
      ) ≡ first_state history start (n + 1) (callers - (n + 1))
  rest_next n callers = let next : suc n ≡ n + 1 = omega arith in
      let less : (callers - n) - 1 ≡ callers - (n + 1) = omega arith in
      (λ i. first_state history start (next i) (less i))

  -- what a fresh pass shows
  pub fresh_first : (machine : M) → start.machine.value ≡ machine → (pass : Pass M) → IsFresh history start pass
      → IsFirst history machine pass
  fresh_first machine is pass fresh = subst (λ (m : M). IsFirst history m pass) is record {
    seen = ap (λ (m : SeatState M). seen_of m.0) fresh;
    mine = ap (λ (m : SeatState M). mine_of history m.0) fresh;
  }

  pub fresh_began : (pass : Pass M) → IsFresh history start pass → Began start.machine.value pass.seat.me
  fresh_began pass fresh = subst (Began start.machine.value) (sym fresh) refl
