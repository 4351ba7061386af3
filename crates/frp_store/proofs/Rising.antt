-- Places by rising number.
use Rattle.std.proofs.Common.{◌≡◌, ℕ, ◌<◌, ◌≤◌, ◌-◌, Bool, true, false, List, [], ◌∷◌, ◌++◌, length, take, zero, suc, Some, refl, sym, ap, ◌∙◌, subst, arith}
use Rattle.std.specs.Prelude.{◌==◌, ◌||◌, ◌&&◌, not, nat_lt, slice_get, if◌then◌else◌}
use Rattle.std.specs.List.{AllByRecursion, insert, remove}
use Rattle.std.specs.Bool.{Decides}
use Rattle.std.specs.Cmp.{unsigned_Decides}
use Rattle.std.proofs.lemmas.Bool.Decides.{nat_tests}
use Rattle.std.proofs.lemmas.List.{length-map}
use Rattle.frp_base.specs.declared.place.Place.{Place}
use Rattle.frp_store.specs.Places.{IsRising, ArePlaces, has, with_place, without_place, count_below, is_number, number_of, numbers}

-- Membership.

pub has_with : (p : ℕ) (qs : List ℕ) (r : ℕ) → has (with_place p qs) r ≡ (p == r || has qs r)
has_with p [] r = refl
has_with p (q ∷ qs) r = by (nat_lt q p) (q == p) (unsigned_Decides q p) (has_with p qs r) where
  swapped : (a b c : Bool) → a || (b || c) ≡ b || (a || c)
  swapped true true c = refl
  swapped true false c = refl
  swapped false b c = refl

  twice : (a b : Bool) → a || b ≡ a || (a || b)
  twice true b = refl
  twice false b = refl

  by : (l e : Bool) → Decides e (q ≡ p) → has (with_place p qs) r ≡ (p == r || has qs r)
      → has (if l then q ∷ with_place p qs else (if e then q ∷ qs else p ∷ q ∷ qs)) r ≡ (p == r || (q == r || has qs r))
  by true e d h = ap (λ b. q == r || b) h ∙ swapped (q == r) (p == r) (has qs r)
  by false true d h = ap (λ i. i == r || has qs r) (d.0 refl) ∙ twice (p == r) (has qs r) ∙ ap (λ i. p == r || (i == r || has qs r)) (sym (d.0 refl))
  by false false d h = refl

-- what is above all of these is none of them
pub none_above : (p : ℕ) (qs : List ℕ) → AllByRecursion (λ q. p < q) qs → has qs p ≡ false
none_above p [] a = refl
none_above p (q ∷ qs) a = by (q == p) (unsigned_Decides q p) (none_above p qs a.1) where
  by : (b : Bool) → Decides b (q ≡ p) → has qs p ≡ false → b || has qs p ≡ false
  by true d h = absurd (let e = d.0 refl in let l : p < q = a.0 in omega arith)
  by false d h = h

all_above : (p q : ℕ) (qs : List ℕ) → p < q → AllByRecursion (λ r. q < r) qs → AllByRecursion (λ r. p < r) qs
all_above p q [] l a = tt
all_above p q (r ∷ qs) l a = ((let h : q < r = a.0 in omega arith), all_above p q qs l a.1)

pub has_without : (p : ℕ) (qs : List ℕ) (r : ℕ) → IsRising qs → has (without_place p qs) r ≡ (not (p == r) && has qs r)
has_without p [] r s = by (p == r) where
  by : (b : Bool) → false ≡ (not b && false)
  by true = refl
  by false = refl
has_without p (q ∷ qs) r s = by (nat_lt q p) refl (q == p) (unsigned_Decides q p) (has_without p qs r s.1) where
  apart : (a b c : Bool) → (a ≡ true → b ≡ true → ⊥) → b || (not a && c) ≡ (not a && (b || c))
  apart true true c d = absurd (d refl refl)
  apart true false c d = refl
  apart false b c d = refl

  gone : (a : Bool) → Decides a (p ≡ r) → (b : Bool) → Decides b (q ≡ r) → q ≡ p → has qs r ≡ (not a && (b || has qs r))
  gone true d b e s2 = ap (has qs) (sym (d.0 refl)) ∙ ap (has qs) (sym s2) ∙ none_above q qs s.0
  gone false d true e s2 = absurd (let x : false ≡ true = d.1 (sym s2 ∙ e.0 refl) in cc)
  gone false d false e s2 = refl

  stays : (a : Bool) → Decides a (p ≡ r) → (q < p → ⊥) → (q ≡ p → ⊥) → q == r || has qs r ≡ (not a && (q == r || has qs r))
  stays true d l e =
      let up : p < q = (let n : q < p → ⊥ = l in let m : q ≡ p → ⊥ = e in grind arith) in
      ap (λ i. q == i || has qs i) (sym (d.0 refl)) ∙ none_above p (q ∷ qs) (up, all_above p q qs up s.0)
  stays false d l e = refl

  by : (l : Bool) → nat_lt q p ≡ l → (e : Bool) → Decides e (q ≡ p) → has (without_place p qs) r ≡ (not (p == r) && has qs r)
      → has (if l then q ∷ without_place p qs else (if e then qs else q ∷ qs)) r ≡ (not (p == r) && (q == r || has qs r))
  by true l e d h =
      let low : q < p = grind (arith, nat_tests) in
      ap (λ b. q == r || b) h ∙ apart (p == r) (q == r) (has qs r)
      (λ a b. let x : p ≡ r = (unsigned_Decides p r).0 a in let y : q ≡ r = (unsigned_Decides q r).0 b in omega arith)
  by false l true d h = gone (p == r) (unsigned_Decides p r) (q == r) (unsigned_Decides q r) (d.0 refl)
  by false l false d h = stays (p == r) (unsigned_Decides p r) (λ x. let t : nat_lt q p ≡ true = grind (arith, nat_tests) in absurd cc) (λ x. let t : false ≡ true = d.1 x in absurd cc)

-- Order.

above_with : (b p : ℕ) (qs : List ℕ) → b < p → AllByRecursion (λ q. b < q) qs → AllByRecursion (λ q. b < q) (with_place p qs)
above_with b p [] l a = (l, tt)
above_with b p (q ∷ qs) l a = by (nat_lt q p) (q == p) (above_with b p qs l a.1) where
  by : (c e : Bool) → AllByRecursion (λ r. b < r) (with_place p qs) → AllByRecursion (λ r. b < r) (if c then q ∷ with_place p qs else (if e then q ∷ qs else p ∷ q ∷ qs))
  by true e h = (a.0, h)
  by false true h = a
  by false false h = (l, a)

pub rising_with : (p : ℕ) (qs : List ℕ) → IsRising qs → IsRising (with_place p qs)
rising_with p [] s = (tt, tt)
rising_with p (q ∷ qs) s = by (nat_lt q p) refl (q == p) (unsigned_Decides q p) (rising_with p qs s.1) where
  by : (l : Bool) → nat_lt q p ≡ l → (e : Bool) → Decides e (q ≡ p) → IsRising (with_place p qs) → IsRising (if l then q ∷ with_place p qs else (if e then q ∷ qs else p ∷ q ∷ qs))
  by true l e d h = (let low : q < p = grind (arith, nat_tests) in above_with q p qs low s.0, h)
  by false l true d h = s
  by false l false d h =
      let up : p < q = (let m : q ≡ p → ⊥ = (λ x. let t : false ≡ true = d.1 x in absurd cc) in grind (arith, nat_tests)) in
      ((up, all_above p q qs up s.0), s)

above_without : (b p : ℕ) (qs : List ℕ) → AllByRecursion (λ q. b < q) qs → AllByRecursion (λ q. b < q) (without_place p qs)
above_without b p [] a = tt
above_without b p (q ∷ qs) a = by (nat_lt q p) (q == p) (above_without b p qs a.1) where
  by : (c e : Bool) → AllByRecursion (λ r. b < r) (without_place p qs) → AllByRecursion (λ r. b < r) (if c then q ∷ without_place p qs else (if e then qs else q ∷ qs))
  by true e h = (a.0, h)
  by false true h = a.1
  by false false h = a

pub rising_without : (p : ℕ) (qs : List ℕ) → IsRising qs → IsRising (without_place p qs)
rising_without p [] s = tt
rising_without p (q ∷ qs) s = by (nat_lt q p) (q == p) (rising_without p qs s.1) where
  by : (c e : Bool) → IsRising (without_place p qs) → IsRising (if c then q ∷ without_place p qs else (if e then qs else q ∷ qs))
  by true e h = (above_without q p qs s.0, h)
  by false true h = s.1
  by false false h = s

-- How many.

pub length_with : (p : ℕ) (qs : List ℕ) → length (with_place p qs) ≤ suc (length qs)
length_with p [] = omega arith
length_with p (q ∷ qs) = by (nat_lt q p) (q == p) (length_with p qs) where
  by : (c e : Bool) → length (with_place p qs) ≤ suc (length qs) → length (if c then q ∷ with_place p qs else (if e then q ∷ qs else p ∷ q ∷ qs)) ≤ suc (suc (length qs))
  by true e h = omega arith
  by false true h = omega arith
  by false false h = omega arith

-- Rising lists of the same places are one list.

same_first : (p q : ℕ) (ps qs : List ℕ) → IsRising (p ∷ ps) → IsRising (q ∷ qs) → ((r : ℕ) → has (p ∷ ps) r ≡ has (q ∷ qs) r) → p < q → ⊥
same_first p q ps qs s t h l =
    let mine : has (p ∷ ps) p ≡ true = here p ps in
    let none : has (q ∷ qs) p ≡ false = none_above p (q ∷ qs) (l, all_above p q qs l t.0) in
    (let e = h p in cc)
  where
    here : (p : ℕ) (ps : List ℕ) → has (p ∷ ps) p ≡ true
    here p ps = by (p == p) (unsigned_Decides p p) where
      by : (b : Bool) → Decides b (p ≡ p) → b || has ps p ≡ true
      by true d = refl
      by false d = absurd (let x : false ≡ true = d.1 refl in cc)

pub one_list : (ps qs : List ℕ) → IsRising ps → IsRising qs → ((r : ℕ) → has ps r ≡ has qs r) → ps ≡ qs
one_list [] [] s t h = refl
one_list [] (q ∷ qs) s t h = absurd (none_has q qs (h q)) where
  none_has : (q : ℕ) (qs : List ℕ) → false ≡ has (q ∷ qs) q → ⊥
  none_has q qs e = by (q == q) (unsigned_Decides q q) e where
    by : (b : Bool) → Decides b (q ≡ q) → false ≡ b || has qs q → ⊥
    by true d e = absurd cc
    by false d e = let x : false ≡ true = d.1 refl in absurd cc
one_list (p ∷ ps) [] s t h = absurd (none_has p ps (h p)) where
  none_has : (q : ℕ) (qs : List ℕ) → has (q ∷ qs) q ≡ false → ⊥
  none_has q qs e = by (q == q) (unsigned_Decides q q) e where
    by : (b : Bool) → Decides b (q ≡ q) → b || has qs q ≡ false → ⊥
    by true d e = absurd cc
    by false d e = let x : false ≡ true = d.1 refl in absurd cc
one_list (p ∷ ps) (q ∷ qs) s t h =
    let head : p ≡ q = (let a : p < q → ⊥ = same_first p q ps qs s t h in let b : q < p → ⊥ = same_first q p qs ps t s (λ r. sym (h r)) in grind arith) in
    ap (λ i. i ∷ ps) head ∙ ap (λ l. q ∷ l) (one_list ps qs s.1 t.1 (λ r. tails head r))
  where
    tails : p ≡ q → (r : ℕ) → has ps r ≡ has qs r
    tails e r = by (p == r) refl (unsigned_Decides p r) (h r) where
      by : (b : Bool) → p == r ≡ b → Decides b (p ≡ r) → (p == r || has ps r ≡ (q == r || has qs r)) → has ps r ≡ has qs r
      by true x d k =
          ap (has ps) (sym (d.0 refl)) ∙ none_above p ps s.0 ∙ sym (none_above q qs t.0) ∙ ap (has qs) (sym e ∙ d.0 refl)
      by false x d k =
          let y : q == r ≡ false = ap (λ i. i == r) (sym e) ∙ x in
          let l : p == r || has ps r ≡ has ps r = rw x refl in
          let m : q == r || has qs r ≡ has qs r = rw y refl in
          sym l ∙ k ∙ m

pub places_same : (ps qs : List ℕ) (test : ℕ → Bool) → ArePlaces ps test → ArePlaces qs test → ps ≡ qs
places_same ps qs test a b = one_list ps qs a.rising b.rising (λ r. a.those r ∙ sym (b.those r))

-- Where a place is put in, and taken out.

pub with_counted : (p : ℕ) (qs : List ℕ) → with_place p qs ≡ (if is_number (slice_get qs (count_below p qs)) p then qs else insert qs (count_below p qs) p)
with_counted p [] = refl
with_counted p (q ∷ qs) = by (nat_lt q p) (with_counted p qs) where
  deeper : (b : Bool) → with_place p qs ≡ (if b then qs else insert qs (count_below p qs) p)
      → q ∷ with_place p qs ≡ (if b then q ∷ qs else insert (q ∷ qs) (suc (count_below p qs)) p)
  deeper true h = ap (λ l. q ∷ l) h
  deeper false h = ap (λ l. q ∷ l) h

  by : (l : Bool) → with_place p qs ≡ (if is_number (slice_get qs (count_below p qs)) p then qs else insert qs (count_below p qs) p)
      → (if l then q ∷ with_place p qs else (if q == p then q ∷ qs else p ∷ q ∷ qs))
      ≡ (if is_number (slice_get (q ∷ qs) (if l then suc (count_below p qs) else 0)) p then q ∷ qs else insert (q ∷ qs) (if l then suc (count_below p qs) else 0) p)
  by true h = deeper (is_number (slice_get qs (count_below p qs)) p) h
  by false h = refl

pub without_counted : (p : ℕ) (qs : List ℕ) → without_place p qs ≡ (if is_number (slice_get qs (count_below p qs)) p then remove qs (count_below p qs) else qs)
without_counted p [] = refl
without_counted p (q ∷ qs) = by (nat_lt q p) (without_counted p qs) where
  deeper : (b : Bool) → without_place p qs ≡ (if b then remove qs (count_below p qs) else qs)
      → q ∷ without_place p qs ≡ (if b then remove (q ∷ qs) (suc (count_below p qs)) else q ∷ qs)
  deeper true h = ap (λ l. q ∷ l) h
  deeper false h = ap (λ l. q ∷ l) h

  by : (l : Bool) → without_place p qs ≡ (if is_number (slice_get qs (count_below p qs)) p then remove qs (count_below p qs) else qs)
      → (if l then q ∷ without_place p qs else (if q == p then qs else q ∷ qs))
      ≡ (if is_number (slice_get (q ∷ qs) (if l then suc (count_below p qs) else 0)) p then remove (q ∷ qs) (if l then suc (count_below p qs) else 0) else q ∷ qs)
  by true h = deeper (is_number (slice_get qs (count_below p qs)) p) h
  by false h = refl

-- one that is not below makes no difference at the end
pub count_more : (p q : ℕ) (qs : List ℕ) → p ≤ q → count_below p (qs ++ q ∷ []) ≡ count_below p qs
count_more p q [] l = let b : nat_lt q p ≡ false = grind (arith, nat_tests) in rw b refl
count_more p q (r ∷ qs) l = ap (λ n. if nat_lt r p then suc n else 0) (count_more p q qs l)

-- where the last is below, all are
pub count_all : (p q : ℕ) (qs : List ℕ) → IsRising (qs ++ q ∷ []) → q < p → count_below p (qs ++ q ∷ []) ≡ length (qs ++ q ∷ [])
count_all p q [] s l = let b : nat_lt q p ≡ true = grind (arith, nat_tests) in rw b refl
count_all p q (r ∷ qs) s l =
    let low : r < q = last_above r q qs s.0 in
    let b : nat_lt r p ≡ true = grind (arith, nat_tests) in
    rw b (ap suc (count_all p q qs s.1 l))
  where
    last_above : (r q : ℕ) (qs : List ℕ) → AllByRecursion (λ i. r < i) (qs ++ q ∷ []) → r < q
    last_above r q [] a = a.0
    last_above r q (i ∷ qs) a = last_above r q qs a.1

-- The same of a list's beginning.

pub take_last : (n : ℕ) (qs : List ℕ) (q : ℕ) → slice_get qs n ≡ Some q → take (suc n) qs ≡ take n qs ++ q ∷ []
take_last n [] q e = absurd cc
take_last zero (r ∷ qs) q e = let s : r ≡ q = cc in ap (λ i. i ∷ []) s
take_last (suc n) (r ∷ qs) q e = ap (λ l. r ∷ l) (take_last n qs q e)

rising_take : (n : ℕ) (qs : List ℕ) → IsRising qs → IsRising (take n qs)
rising_take zero [] s = tt
rising_take zero (q ∷ qs) s = tt
rising_take (suc n) [] s = tt
rising_take (suc n) (q ∷ qs) s = (above n qs s.0, rising_take n qs s.1) where
  above : (n : ℕ) (rs : List ℕ) → AllByRecursion (λ r. q < r) rs → AllByRecursion (λ r. q < r) (take n rs)
  above zero [] a = tt
  above zero (r ∷ rs) a = tt
  above (suc n) [] a = tt
  above (suc n) (r ∷ rs) a = (a.0, above n rs a.1)

pub count_step : (p n q : ℕ) (qs : List ℕ) → 0 < n → slice_get qs (n - 1) ≡ Some q → p ≤ q → count_below p (take (n - 1) qs) ≡ count_below p (take n qs)
count_step p zero q qs z e l = absurd (omega arith)
count_step p (suc n) q qs z e l =
    let m : suc n - 1 ≡ n = omega arith in
    ap (λ k. count_below p (take k qs)) m ∙ sym (ap (count_below p) (take_last n qs q (subst (λ k. slice_get qs k ≡ Some q) m e)) ∙ count_more p q (take n qs) l)

pub count_end : (p n q : ℕ) (qs : List ℕ) → 0 < n → n ≤ length qs → IsRising qs → slice_get qs (n - 1) ≡ Some q → q < p → count_below p (take n qs) ≡ n
count_end p zero q qs z w s e l = absurd (omega arith)
count_end p (suc n) q qs z w s e l =
    let m : suc n - 1 ≡ n = omega arith in
    let t : take (suc n) qs ≡ take n qs ++ q ∷ [] = take_last n qs q (subst (λ k. slice_get qs k ≡ Some q) m e) in
    ap (count_below p) t ∙ count_all p q (take n qs) (subst IsRising t (rising_take (suc n) qs s)) l
    ∙ sym (ap length t) ∙ length-take_at (suc n) qs w
  where
    length-take_at : (n : ℕ) (qs : List ℕ) → n ≤ length qs → length (take n qs) ≡ n
    length-take_at zero [] w = refl
    length-take_at zero (q ∷ qs) w = refl
    length-take_at (suc n) [] w = absurd (omega arith)
    length-take_at (suc n) (q ∷ qs) w = ap suc (length-take_at n qs (omega arith))

pub number_got : (places : List Place) (i : ℕ) (p : Place) → slice_get places i ≡ Some p → slice_get (numbers places) i ≡ Some p.0
number_got [] i p e = absurd cc
number_got (q ∷ ps) zero p e = let s : q ≡ p = cc in ap (λ (z : Place). Some z.0) s
number_got (q ∷ ps) (suc i) p e = number_got ps i p e

pub count_within : (p : ℕ) (qs : List ℕ) → count_below p qs ≤ length qs
count_within p [] = omega arith
count_within p (q ∷ qs) = by (nat_lt q p) (count_within p qs) where
  by : (b : Bool) → count_below p qs ≤ length qs → (if b then suc (count_below p qs) else 0) ≤ suc (length qs)
  by true h = omega arith
  by false h = omega arith

pub numbers_inserted : (places : List Place) (i : ℕ) (p : Place) → numbers (insert places i p) ≡ insert (numbers places) i p.0
numbers_inserted places zero p = refl
numbers_inserted [] (suc i) p = refl
numbers_inserted (q ∷ ps) (suc i) p = ap (λ l. q.0 ∷ l) (numbers_inserted ps i p)

pub numbers_removed : (places : List Place) (i : ℕ) → numbers (remove places i) ≡ remove (numbers places) i
numbers_removed [] zero = refl
numbers_removed [] (suc i) = refl
numbers_removed (q ∷ ps) zero = refl
numbers_removed (q ∷ ps) (suc i) = ap (λ l. q.0 ∷ l) (numbers_removed ps i)

length_inserted : (qs : List ℕ) (i p : ℕ) → i ≤ length qs → length (insert qs i p) ≡ suc (length qs)
length_inserted [] zero p w = refl
length_inserted (q ∷ qs) zero p w = refl
length_inserted [] (suc i) p w = absurd (omega arith)
length_inserted (q ∷ qs) (suc i) p w = ap suc (length_inserted qs i p (omega arith))

-- a place that is not there takes its place
pub with_new : (p n : ℕ) (qs : List ℕ) → n ≡ count_below p qs → is_number (slice_get qs n) p ≡ false → with_place p qs ≡ insert qs n p
with_new p n qs e f = with_counted p qs ∙ rw ((ap (λ k. is_number (slice_get qs k) p) (sym e) ∙ f), sym e) refl

pub with_old : (p n : ℕ) (qs : List ℕ) → n ≡ count_below p qs → is_number (slice_get qs n) p ≡ true → with_place p qs ≡ qs
with_old p n qs e t = with_counted p qs ∙ rw (ap (λ k. is_number (slice_get qs k) p) (sym e) ∙ t) refl

pub without_new : (p n : ℕ) (qs : List ℕ) → n ≡ count_below p qs → is_number (slice_get qs n) p ≡ false → without_place p qs ≡ qs
without_new p n qs e f = without_counted p qs ∙ rw (ap (λ k. is_number (slice_get qs k) p) (sym e) ∙ f) refl

pub without_old : (p n : ℕ) (qs : List ℕ) → n ≡ count_below p qs → is_number (slice_get qs n) p ≡ true → without_place p qs ≡ remove qs n
without_old p n qs e t = without_counted p qs ∙ rw ((ap (λ k. is_number (slice_get qs k) p) (sym e) ∙ t), sym e) refl

-- then there is room for one more
pub room_new : (p n room : ℕ) (qs : List ℕ) → n ≡ count_below p qs → is_number (slice_get qs n) p ≡ false → length (with_place p qs) ≤ room → length qs < room
room_new p n room qs e f r =
    let a : length (with_place p qs) ≡ suc (length qs) = ap length (with_new p n qs e f) ∙ length_inserted qs n p (subst (λ k. k ≤ length qs) (sym e) (count_within p qs)) in
    omega arith

pub rising_shorter : (n : ℕ) (qs : List ℕ) → IsRising qs → IsRising (take n qs)
rising_shorter = rising_take

pub numbers_taken : (n : ℕ) (places : List Place) → numbers (take n places) ≡ take n (numbers places)
numbers_taken zero ps = refl
numbers_taken (suc n) [] = refl
numbers_taken (suc n) (p ∷ ps) = ap (λ l. p.0 ∷ l) (numbers_taken n ps)

-- The places of a slice, as they are written.

pub counted_within : (p n len : ℕ) (places : List Place) (items : List ℕ) → numbers places ≡ items → n ≡ count_below p items → len ≡ length places → n ≤ len
counted_within p n len places items v e k =
    let w = count_within p items in
    let l : length (numbers places) ≡ length items = ap length v in
    let m : length (numbers places) ≡ length places = length-map places number_of in
    omega arith

pub inserted_is : (places new : List Place) (p : Place) (n : ℕ) (items : List ℕ) → numbers places ≡ items → n ≡ count_below p.0 items
    → is_number (slice_get items n) p.0 ≡ false → new ≡ insert places n p → numbers new ≡ with_place p.0 items
inserted_is places new p n items v e f q = ap numbers q ∙ numbers_inserted places n p ∙ ap (λ l. insert l n p.0) v ∙ sym (with_new p.0 n items e f)

pub removed_is : (places new : List Place) (p n : ℕ) (items : List ℕ) → numbers places ≡ items → n ≡ count_below p items
    → is_number (slice_get items n) p ≡ true → new ≡ remove places n → numbers new ≡ without_place p items
removed_is places new p n items v e t q = ap numbers q ∙ numbers_removed places n ∙ ap (λ l. remove l n) v ∙ sym (without_old p n items e t)

pub room_left : (p n len cap room : ℕ) (places : List Place) (items : List ℕ) → numbers places ≡ items → cap ≡ room → n ≡ count_below p items
    → is_number (slice_get items n) p ≡ false → length (with_place p items) ≤ room → len ≡ length places → len < cap
room_left p n len cap room places items v r e f w k =
    let x = room_new p n room items e f w in
    let l : length (numbers places) ≡ length items = ap length v in
    let m : length (numbers places) ≡ length places = length-map places number_of in
    omega arith

pub still_rising : (ps qs : List ℕ) → qs ≡ ps → IsRising ps → IsRising qs
still_rising ps qs e s = subst IsRising (sym e) s
