-- What a call that may find a fault or want memory says of an outcome.
use Rattle.std.specs.Prelude.{◌≡◌, Result, Ok, Err}
use Rattle.frp_expr.specs.Raw.{ExprOutcome}
use Rattle.frp_expr.specs.declared.fault.ExprStop.{ExprStop}
use Rattle.frp_expr.specs.declared.fault.ExprStop.TheVariants as stop

-- the call stops with the fault of the outcome, or for want of memory
abbrev pub ExprStops : {Y : Type 0} → ExprStop → ExprOutcome Y → Type 0
ExprStops stop.Memory outcome = Unit {0}
ExprStops (stop.Fault f) outcome = outcome ≡ Err f

-- what the call returned, seen by view, is the outcome, unless it found no memory
abbrev pub ExprGives : {X Y : Type 0} → (X → Y) → Result X ExprStop → ExprOutcome Y → Type 0
ExprGives view (Ok x) outcome = outcome ≡ Ok (view x)
ExprGives view (Err e) outcome = ExprStops e outcome
