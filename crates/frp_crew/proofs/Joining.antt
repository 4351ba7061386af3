-- answers put together: of two halves, and of a list of results
use Rattle.std.proofs.Common.{◌≡◌, List, [], ◌∷◌, ◌++◌, Ok, Err, map, subst, sym, ap, ◌∙◌, refl}
use Rattle.std.specs.Prelude.{IfOk, MatchResult, Contains}
use Rattle.std.specs.Borrow.{Bor}
use Rattle.std.specs.Fn.{Shared, FnReturnsAt}
use Rattle.std.specs.List.{AllZip}
use Rattle.std.specs.declared.result.Result.{Result}
use Rattle.std.specs.declared.vec.Vec.{Vec}
use Rattle.rayon.proofs.ListFacts.{AllZip-append}
use Rattle.frp_base.specs.declared.memory.Memory.{Memory}
use Rattle.frp_crew.specs.Answers.{AreAnswers, AreBoth}

module _ {F I O : Type 0} (function : Shared F (Bor I × Unit {0}) (Result O Memory)) (f : F) where
  both_ok : {Z : Type 0} (left right : List I) (front back : Result (Vec O Z) Memory) (answers : List O) → IfOk front (λ v. AreAnswers function f left v.items)
      → IfOk back (λ v. AreAnswers function f right v.items) → AreBoth front back answers → AreAnswers function f (left ++ right) answers
  both_ok left right front back answers h k (a, b, p, q, e) =
      subst (AreAnswers function f (left ++ right)) (sym e)
      (AllZip-append (λ item answer. FnReturnsAt function f item (Ok answer)) left right a.items b.items
      (subst (λ r. IfOk r (λ v. AreAnswers function f left v.items)) p h) (subst (λ r. IfOk r (λ v. AreAnswers function f right v.items)) q k))

  -- the answers on the halves, joined, are those on the whole
  pub halves_joined : {Z : Type 0} (left right : List I) (front back result : Result (Vec O Z) Memory) → IfOk front (λ v. AreAnswers function f left v.items)
      → IfOk back (λ v. AreAnswers function f right v.items) → IfOk result (λ v. AreBoth front back v.items) → IfOk result (λ v. AreAnswers function f (left ++ right) v.items)
  halves_joined left right front back (Ok v) h k j = both_ok left right front back v.items h k j
  halves_joined left right front back (Err e) h k j = tt

  -- results that are all answers
  answers_of : (items : List I) (answers : List O) → AllZip (FnReturnsAt function f) items (map Ok answers) → AreAnswers function f items answers
  answers_of [] [] h = tt
  answers_of [] (y ∷ ys) h = absurd h
  answers_of (x ∷ xs) [] h = absurd h
  answers_of (x ∷ xs) (y ∷ ys) h = (h.0, answers_of xs ys h.1)

  -- the results on the items, collected
  pub results_collected : {Z : Type 0} (items : List I) (results : List (Result O Memory)) (collected : Result (Vec O Z) Memory) → AllZip (FnReturnsAt function f) items results
      → MatchResult collected (λ v. (ys : List O) × (results ≡ map Ok ys) × (v.items ≡ ys)) (λ e. Contains results (Err e))
      → IfOk collected (λ v. AreAnswers function f items v.items)
  results_collected items results (Ok v) h (ys, e, q) =
      subst (AreAnswers function f items) (sym q) (answers_of items ys (subst (AllZip (FnReturnsAt function f) items) e h))
  results_collected items results (Err e) h k = tt
