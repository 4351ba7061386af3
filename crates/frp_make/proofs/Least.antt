-- The least of some names, as it is found from the first on.
use Rattle.std.proofs.Common.{◌≡◌, ℕ, ◌<◌, ◌+◌, Bool, true, false, List, [], get_or, refl, sym, ap, subst, arith, inl, inr}
use Rattle.std.specs.Ordering.{is_lt}
use Rattle.std.specs.declared.cmp.Ordering.{Ordering}
use Rattle.std.specs.declared.cmp.Ordering.TheVariants.{Less, Equal, Greater}
use Rattle.std.proofs.lemmas.Bool.{cases_lt}
use Rattle.frp_base.specs.declared.name.Name.{Name}
use Rattle.frp_base.specs.Name.{name_cmp}
use Rattle.frp_base.proofs.OrderLemmas.{name_cmp-equal, name_cmp-transitive}

less_of : (o : Ordering) → is_lt o ≡ true → o ≡ Less
less_of Less h = refl
less_of Equal h = absurd cc
less_of Greater h = absurd cc

not_true : (b : Bool) → (b ≡ true → ⊥) → b ≡ false
not_true true f = absurd (f refl)
not_true false f = refl

not_itself : (n : Name) → is_lt (name_cmp n n) ≡ false
not_itself n = ap is_lt ((name_cmp-equal n n).1 refl)

-- what is not less than a name is not less than one that is less than it
not_lower : (m n k : Name) → is_lt (name_cmp n m) ≡ true → is_lt (name_cmp k m) ≡ false → is_lt (name_cmp k n) ≡ false
not_lower m n k below apart = not_true (is_lt (name_cmp k n)) (λ h.
    let t : is_lt (name_cmp k m) ≡ true = ap is_lt (name_cmp-transitive k n m (less_of (name_cmp k n) h) (less_of (name_cmp n m) below)) in
    cc (t, apart))

-- the least of the first names, where it has this number
abbrev pub LeastUpTo : List Name → ℕ → ℕ → Type 0
LeastUpTo ns i best = (k : ℕ) → k < i → is_lt (name_cmp (get_or ns k []) (get_or ns best [])) ≡ false

pub less_now : (ns : List Name) (i best now : ℕ) → LeastUpTo ns i best → is_lt (name_cmp (get_or ns i []) (get_or ns best [])) ≡ true → now ≡ i → LeastUpTo ns (i + 1) now
less_now ns i best now least below e k h = subst (λ j. is_lt (name_cmp (get_or ns k []) (get_or ns j [])) ≡ false) (sym e) (elim (cases_lt k i) [
  | inl l ↦ not_lower (get_or ns best []) (get_or ns i []) (get_or ns k []) below (least k l)
  | inr l ↦ let s : i ≡ k = omega arith in subst (λ j. is_lt (name_cmp (get_or ns j []) (get_or ns i [])) ≡ false) s (not_itself (get_or ns i []))
])

pub less_still : (ns : List Name) (i best now : ℕ) → LeastUpTo ns i best → is_lt (name_cmp (get_or ns i []) (get_or ns best [])) ≡ false → now ≡ best → LeastUpTo ns (i + 1) now
less_still ns i best now least apart e k h = subst (λ j. is_lt (name_cmp (get_or ns k []) (get_or ns j [])) ≡ false) (sym e) (elim (cases_lt k i) [
  | inl l ↦ least k l
  | inr l ↦ let s : i ≡ k = omega arith in subst (λ j. is_lt (name_cmp (get_or ns j []) (get_or ns best [])) ≡ false) s apart
])
