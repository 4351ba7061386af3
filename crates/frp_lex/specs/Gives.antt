-- What reading comes to, and what a call that reads says of it.
use Rattle.std.specs.Prelude.{◌≡◌, ℕ, Result, Ok, Err}
use Rattle.frp_lex.specs.declared.fault.Lex.{Lex}
use Rattle.frp_lex.specs.declared.fault.LexKind.{LexKind}
use Rattle.frp_lex.specs.declared.fault.LexStop.{LexStop}
use Rattle.frp_lex.specs.declared.fault.LexStop.TheVariants as stop

-- what is read, or the first fault
abbrev pub LexOutcome : Type 0 → Type 0
LexOutcome A = Result A Lex

infixl 10 ◌>>=◌
abbrev pub ◌>>=◌ : {A B : Type 0} → LexOutcome A → (A → LexOutcome B) → LexOutcome B
(Ok x) >>= f = f x
(Err e) >>= f = Err e

-- the fault of a kind at a place
abbrev pub lex_fault : {A : Type 0} → ℕ → LexKind → LexOutcome A
lex_fault at kind = Err (record { place = at; kind = kind })

-- the call stops with the fault of the outcome, or for want of memory
abbrev pub LexStops : {Y : Type 0} → LexStop → LexOutcome Y → Type 0
LexStops stop.Memory outcome = Unit {0}
LexStops (stop.Fault f) outcome = outcome ≡ Err f

-- what the call returned, seen by view, is the outcome, unless it found no memory
abbrev pub LexGives : {X Y : Type 0} → (X → Y) → Result X LexStop → LexOutcome Y → Type 0
LexGives view (Ok x) outcome = outcome ≡ Ok (view x)
LexGives view (Err e) outcome = LexStops e outcome
