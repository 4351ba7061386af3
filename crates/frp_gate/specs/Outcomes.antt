-- what holds of a call's outcome, by its two cases
use Rattle.std.specs.Prelude.{⊤}
use Rattle.frp_gate.specs.declared.outcome.Receipt.{Receipt}
use Rattle.frp_gate.specs.declared.outcome.Outcome.{Outcome}
use Rattle.frp_gate.specs.declared.outcome.Outcome.TheVariants.{Entered, NotEntered}

module _ {M C R S H F : Type 0} where
  -- if the call was entered, P holds of its receipt and its reply
  abbrev pub IfEntered : Outcome M C R S H F → (Receipt → R → Type 0) → Type 0
  IfEntered (Entered receipt reply) P = P receipt reply
  IfEntered (NotEntered stop cmd) P = ⊤

  -- if the call was not entered, P holds of the stop and the command that came back
  abbrev pub IfNotEntered : Outcome M C R S H F → (S → C → Type 0) → Type 0
  IfNotEntered (Entered receipt reply) P = ⊤
  IfNotEntered (NotEntered stop cmd) P = P stop cmd
