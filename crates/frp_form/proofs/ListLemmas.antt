-- Reading items one after the other, as a loop does.
use Rattle.std.proofs.Common.{◌≡◌, ℕ, zero, suc, ◌-◌, ◌+◌, ◌<◌, List, [], ◌∷◌, ◌++◌, Option, Some, None, Ok, Err, refl, sym, ap, ◌∙◌, append_assoc, arith}
use Rattle.std.proofs.lemmas.List.{append-nil}
use Rattle.frp_lex.specs.declared.token.Token.{Token}
use Rattle.frp_form.specs.declared.fault.FormFault.{FormFault}
use Rattle.frp_form.specs.declared.fault.FormStop.{FormStop}
use Rattle.frp_form.specs.declared.fault.FormStop.TheVariants as stop
use Rattle.frp_form.specs.Gives.{FormOutcome, Parser, ◌>>=◌, FormStops}
use Rattle.frp_form.specs.Lists.{items, behind}

-- a fault of the first step is a fault of both
pub then_stops : {A B : Type 0} (e : FormStop) (r : FormOutcome A) (f : A → FormOutcome B) → FormStops e r → FormStops e (r >>= f)
then_stops stop.Memory r f h = tt
then_stops (stop.Fault d) r f h = rw h refl

-- behind nothing
pub behind_none : {A : Type 0} (r : FormOutcome (List A × List Token)) → behind [] r ≡ r
behind_none (Ok x) = refl
behind_none (Err e) = refl

-- a step after what stands behind others
pub behind_then : {A B : Type 0} (before : List A) (r : FormOutcome (List A × List Token)) (f : List A × List Token → FormOutcome B) → (behind before r >>= f) ≡ (r >>= λ x. f (before ++ x.0, x.1))
behind_then before (Ok x) f = refl
behind_then before (Err e) f = refl

-- a last step after a list with a first item
pub one_first : {A B : Type 0} (x : A) (r : FormOutcome (List A × List Token)) (f : List A × List Token → FormOutcome B) (y : List A × List Token) → behind (x ∷ []) r ≡ Ok y → (r >>= λ xs. f (x ∷ xs.0, xs.1)) ≡ f y
one_first x r f y h = sym (behind_then (x ∷ []) r f) ∙ ap (λ q. q >>= f) h

pub first_stops : {A B : Type 0} (e : FormStop) (x : A) (r : FormOutcome (List A × List Token)) (f : List A × List Token → FormOutcome B) → FormStops e (behind (x ∷ []) r) → FormStops e (r >>= f)
first_stops stop.Memory x r f h = tt
first_stops (stop.Fault d) x (Ok xs) f h = cc
first_stops (stop.Fault d) x (Err e) f h = cc

regroup : {A : Type 0} (before : List A) (x : A) (r : FormOutcome (List A × List Token)) → behind before (r >>= λ xs. Ok (x ∷ xs.0, xs.1)) ≡ behind (before ++ x ∷ []) r
regroup before x (Ok (xs, rest)) = ap (λ ys. Ok (ys, rest)) (sym (append_assoc before (x ∷ []) xs))
regroup before x (Err e) = refl

module _ {A : Type 0} (ends : List Token → Option (List Token)) (over : List Token → FormFault) (item : Parser A) where
  -- where a list goes on, it is an item and the rest
  pub one_item : (n : ℕ) (ts : List Token) (x : A) (after : List Token) → ends ts ≡ None → item ts ≡ Ok (x, after) → items ends over item (suc n) ts ≡ (items ends over item n after >>= λ xs. Ok (x ∷ xs.0, xs.1))
  unfolding items
  one_item n ts x after none h = rw (none, h) refl

  pub goes_on : (limit i : ℕ) (found : List A) (ts : List Token) (x : A) (after : List Token) (total : FormOutcome (List A × List Token)) → i < limit → ends ts ≡ None → item ts ≡ Ok (x, after)
      → behind found (items ends over item (limit - i) ts) ≡ total → behind (found ++ x ∷ []) (items ends over item (limit - (i + 1)) after) ≡ total
  goes_on limit i found ts x after total lt none h so_far =
      let k : limit - i ≡ suc (limit - (i + 1)) = omega arith in
      let one : items ends over item (limit - i) ts ≡ (items ends over item (limit - (i + 1)) after >>= λ xs. Ok (x ∷ xs.0, xs.1)) = rw k (one_item (limit - (i + 1)) ts x after none h) in
      sym (regroup found x (items ends over item (limit - (i + 1)) after)) ∙ sym (ap (behind found) one) ∙ so_far

  fails_here : (e : FormStop) (n : ℕ) (found : List A) (ts : List Token) → ends ts ≡ None → FormStops e (item ts) → FormStops e (behind found (items ends over item (suc n) ts))
  unfolding items
  fails_here stop.Memory n found ts none h = tt
  fails_here (stop.Fault d) n found ts none h = rw (none, h) refl

  pub fails : (e : FormStop) (limit i : ℕ) (found : List A) (ts : List Token) (total : FormOutcome (List A × List Token)) → i < limit → ends ts ≡ None → FormStops e (item ts)
      → behind found (items ends over item (limit - i) ts) ≡ total → FormStops e total
  fails e limit i found ts total lt none h so_far =
      let k : limit - i ≡ suc (limit - (i + 1)) = omega arith in
      rw (← so_far, k) (fails_here e (limit - (i + 1)) found ts none h)

  pub stops : (n : ℕ) (found : List A) (ts after : List Token) (total : FormOutcome (List A × List Token)) → ends ts ≡ Some after → behind found (items ends over item n ts) ≡ total → total ≡ Ok (found, after)
  unfolding items
  stops zero found ts after total h so_far = sym so_far ∙ rw h (ap (λ xs. Ok (xs, after)) (append-nil found))
  stops (suc n) found ts after total h so_far = sym so_far ∙ rw h (ap (λ xs. Ok (xs, after)) (append-nil found))

  pub is_full : (n : ℕ) (found : List A) (ts : List Token) (total : FormOutcome (List A × List Token)) → n ≡ 0 → ends ts ≡ None → behind found (items ends over item n ts) ≡ total → total ≡ Err (over ts)
  unfolding items
  is_full zero found ts total e h so_far = sym so_far ∙ rw h refl
  is_full (suc n) found ts total e h so_far = absurd (omega arith)
