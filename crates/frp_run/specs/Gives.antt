-- What a call that reads a text says of an outcome.
use Rattle.std.specs.Prelude.{◌≡◌, Result, Ok, Err}
use Rattle.frp_run.specs.Texts.{TextOutcome}
use Rattle.frp_run.specs.declared.refused.TextStop.{TextStop}
use Rattle.frp_run.specs.declared.refused.TextStop.TheVariants as stop

-- the call stops with the refusal of the outcome, or for want of memory
abbrev pub TextStops : {A : Type 0} → TextStop → TextOutcome A → Type 0
TextStops stop.Memory outcome = Unit {0}
TextStops (stop.Refused why) outcome = outcome ≡ Err why

-- what the call returned is the outcome, unless it found no memory
abbrev pub TextGives : {A : Type 0} → Result A TextStop → TextOutcome A → Type 0
TextGives (Ok x) outcome = outcome ≡ Ok x
TextGives (Err e) outcome = TextStops e outcome
