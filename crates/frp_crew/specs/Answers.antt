-- What a crew asks of a function, and what it answers of it.
use Rattle.std.specs.Prelude.{◌≡◌, List, ◌++◌, Ok}
use Rattle.std.specs.Borrow.{Bor}
use Rattle.std.specs.List.{All, AllZip}
use Rattle.std.specs.Fn.{Shared, FnReturnsAt}
use Rattle.std.specs.declared.result.Result.{Result}
use Rattle.std.specs.declared.vec.Vec.{Vec}
use Rattle.frp_base.specs.declared.memory.Memory.{Memory}

module _ {F I O : Type 0} (function : Shared F (Bor I × Unit {0}) (Result O Memory)) (f : F) where
  -- f may be called on the item
  abbrev pub TakesItem : I → Type 0
  TakesItem item = (shown : Bor I) → shown.now ≡ item → function.pre f (shown, tt)

  -- f may be called on each of the items
  abbrev pub TakesEach : List I → Type 0
  TakesEach = All TakesItem

  -- these are the answers of f on the items, in their order
  abbrev pub AreAnswers : List I → List O → Type 0
  AreAnswers = AllZip (λ item answer. FnReturnsAt function f item (Ok answer))

-- both are answers, and these are those of the one and then those of the other
abbrev pub AreBoth : {O Z : Type 0} → Result (Vec O Z) Memory → Result (Vec O Z) Memory → List O → Type 0
AreBoth {O} {Z} front back answers = (a : Vec O Z) × (b : Vec O Z) × (front ≡ Ok a) × (back ≡ Ok b) × (answers ≡ a.items ++ b.items)
