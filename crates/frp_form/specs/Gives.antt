-- What reading comes to, and what a call that reads says of it.
use Rattle.std.specs.Prelude.{◌≡◌, ℕ, List, Result, Ok, Err}
use Rattle.frp_lex.specs.declared.token.Token.{Token}
use Rattle.frp_form.specs.declared.fault.FormFault.{FormFault}
use Rattle.frp_form.specs.declared.fault.FormKind.{FormKind}
use Rattle.frp_form.specs.declared.fault.FormStop.{FormStop}
use Rattle.frp_form.specs.declared.fault.FormStop.TheVariants as stop

-- what is read, or the first fault
abbrev pub FormOutcome : Type 0 → Type 0
FormOutcome A = Result A FormFault

-- what stands at the front of tokens, and the tokens behind it; or the first fault
abbrev pub Parser : Type 0 → Type 0
Parser A = List Token → FormOutcome (A × List Token)

infixl 10 ◌>>=◌
abbrev pub ◌>>=◌ : {A B : Type 0} → FormOutcome A → (A → FormOutcome B) → FormOutcome B
(Ok x) >>= f = f x
(Err e) >>= f = Err e

-- the fault of a kind at a place
abbrev pub fault : ℕ → FormKind → FormFault
fault at kind = record { place = at; kind = kind }

-- the call stops with the fault of the outcome, or for want of memory
abbrev pub FormStops : {Y : Type 0} → FormStop → FormOutcome Y → Type 0
FormStops stop.Memory outcome = Unit {0}
FormStops (stop.Fault f) outcome = outcome ≡ Err f

-- what the call returned, seen by view, is the outcome, unless it found no memory
abbrev pub FormGives : {X Y : Type 0} → (X → Y) → Result X FormStop → FormOutcome Y → Type 0
FormGives view (Ok x) outcome = outcome ≡ Ok (view x)
FormGives view (Err e) outcome = FormStops e outcome
