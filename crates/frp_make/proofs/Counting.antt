-- How often places stand among places and in rows of them, as one is put in or a row is taken away.
use Rattle.std.proofs.Common.{◌≡◌, ℕ, zero, suc, ◌+◌, ◌<◌, ◌≤◌, Bool, true, false, List, [], ◌∷◌, ◌++◌, length, set, get_or, replicate, Option, Some, None, refl, ap, ◌∙◌, subst, arith, inl, inr}
use Rattle.std.specs.Prelude.{◌==◌, slice_get, if◌then◌else◌}
use Rattle.std.specs.List.{sum_by}
use Rattle.std.specs.Cmp.{unsigned_Decides}
use Rattle.std.proofs.lemmas.Bool.{cases_eq, cases_lt}
use Rattle.std.proofs.lemmas.List.{get_or_past, get_or-set_same, get_or-set_other}
use Rattle.std.proofs.lemmas.List.Sums.{sum_by-cons, sum_by-append, sum_by_push, sum_by-set, get_or-le-sum_by}
use Rattle.frp_base.proofs.Booleans.{is_false}
use Rattle.frp_graph.specs.declared.trace.Node.{Node}
use Rattle.frp_order.specs.Rings.{row}
use Rattle.frp_make.specs.Search.{is_missing, missing_from, missing_among, one_if, count, missing_of, missing_at}

pub same_is : (p : ℕ) → one_if (p == p) ≡ 1
same_is p = let t : p == p ≡ true = (unsigned_Decides p p).1 refl in rw t refl

pub other_is : (p q : ℕ) → (p ≡ q → ⊥) → one_if (p == q) ≡ 0
other_is p q n = let t : p == q ≡ false = is_false (p == q) (λ h. n ((unsigned_Decides p q).0 h)) in rw t refl

-- at most one
pub one_at_most : (b : Bool) → one_if b ≤ 1
one_at_most true = omega arith
one_at_most false = omega arith

pub missing_once : (nodes : List Node) (p : ℕ) → missing_at nodes p ≤ 1
missing_once nodes p = by (slice_get nodes p) where
  by : (o : Option Node) → missing_of o ≤ 1
  by None = omega arith
  by (Some x) = one_at_most (is_missing x)

-- Places.

pub count_push : (r p : ℕ) (places : List ℕ) → count r (places ++ p ∷ []) ≡ count r places + one_if (p == r)
count_push r p places = sum_by_push (λ q. one_if (q == r)) places p

pub count_append : (r : ℕ) (places more : List ℕ) → count r (places ++ more) ≡ count r places + count r more
count_append r places more = sum_by-append (λ q. one_if (q == r)) places more

pub counted_at : (places : List ℕ) (i : ℕ) → i < length places → 0 < count (get_or places i 0) places
counted_at places i h =
    let l : one_if (get_or places i 0 == get_or places i 0) ≤ count (get_or places i 0) places = get_or-le-sum_by (λ q. one_if (q == get_or places i 0)) places i 0 h in
    let e = same_is (get_or places i 0) in
    omega arith

pub count_found : (r : ℕ) (places : List ℕ) → 0 < count r places → (i : ℕ) × (i < length places) × (get_or places i 0 ≡ r)
count_found r [] h = absurd (omega arith)
count_found r (p ∷ places) h = elim (cases_eq p r) [
  | inl e ↦ (0, omega arith, e)
  | inr n ↦
      let step : count r (p ∷ places) ≡ one_if (p == r) + count r places = sum_by-cons (λ q. one_if (q == r)) p places in
      let none : one_if (p == r) ≡ 0 = other_is p r n in
      let f = count_found r places (omega arith) in
      (suc f.0, (let l = f.1 in omega arith), f.2)
]

-- Rows.

abbrev pub in_rows : ℕ → List (List ℕ) → ℕ
in_rows r rows = sum_by (count r) rows

pub rows_written : (rows : List (List ℕ)) (q : ℕ) (new : List ℕ) → q < length rows → (f : List ℕ → ℕ) → sum_by f (set rows q new) + f (row rows q) ≡ sum_by f rows + f new
rows_written rows q new h f = sum_by-set f rows q new [] h

pub row_written : (rows : List (List ℕ)) (q : ℕ) (new : List ℕ) → q < length rows → row (set rows q new) q ≡ new
row_written rows q new h = get_or-set_same rows q new [] h

pub row_other : (rows : List (List ℕ)) (q t : ℕ) (new : List ℕ) → (t ≡ q → ⊥) → row (set rows q new) t ≡ row rows t
row_other rows q t new n = get_or-set_other rows q t new [] n

pub in_row : (r q : ℕ) (rows : List (List ℕ)) → count r (row rows q) ≤ in_rows r rows
in_row r q rows = elim (cases_lt q (length rows)) [
  | inl h ↦ get_or-le-sum_by (count r) rows q [] h
  | inr h ↦ let e : count r (row rows q) ≡ 0 = ap (count r) (get_or_past rows q [] h) in omega arith
]

pub found_row : (r : ℕ) (rows : List (List ℕ)) → 0 < in_rows r rows → (q : ℕ) × (0 < count r (row rows q))
found_row r [] h = absurd (omega arith)
found_row r (xs ∷ rows) h = elim (cases_eq (count r xs) 0) [
  | inl e ↦
      let step : in_rows r (xs ∷ rows) ≡ count r xs + in_rows r rows = sum_by-cons (count r) xs rows in
      let f = found_row r rows (omega arith) in
      (suc f.0, f.1)
  | inr n ↦ (0, omega (arith, n))
]

pub none_in_rows : (r n : ℕ) → in_rows r (replicate n []) ≡ 0
none_in_rows r zero = refl
none_in_rows r (suc n) =
    let step : in_rows r (replicate (suc n) []) ≡ 0 + in_rows r (replicate n []) = sum_by-cons (count r) [] (replicate n []) in
    let more = none_in_rows r n in
    omega arith

pub none_in_row : (r q n : ℕ) → count r (row (replicate n []) q) ≡ 0
none_in_row r q n = let l = in_row r q (replicate n []) in let z = none_in_rows r n in omega arith

-- Cells without a first value.

before_from : (p k : ℕ) (nodes : List Node) → p < k → count p (missing_from k nodes) ≡ 0
before_from p k [] h = refl
before_from p k (x ∷ nodes) h = by (is_missing x) (before_from p (k + 1) nodes (omega arith)) where
  by : (b : Bool) → count p (missing_from (k + 1) nodes) ≡ 0 → count p (if b then k ∷ missing_from (k + 1) nodes else missing_from (k + 1) nodes) ≡ 0
  by true z =
      let step : count p (k ∷ missing_from (k + 1) nodes) ≡ one_if (k == p) + count p (missing_from (k + 1) nodes) = sum_by-cons (λ q. one_if (q == p)) k (missing_from (k + 1) nodes) in
      let none : one_if (k == p) ≡ 0 = other_is k p (λ e. omega (arith, e)) in
      omega arith
  by false z = z

count_from : (p k : ℕ) (nodes : List Node) → count (k + p) (missing_from k nodes) ≡ missing_at nodes p
count_from p k [] = refl
count_from zero k (x ∷ nodes) = by (is_missing x) (before_from (k + 0) (k + 1) nodes (omega arith)) where
  by : (b : Bool) → count (k + 0) (missing_from (k + 1) nodes) ≡ 0 → count (k + 0) (if b then k ∷ missing_from (k + 1) nodes else missing_from (k + 1) nodes) ≡ one_if b
  by true z =
      let step : count (k + 0) (k ∷ missing_from (k + 1) nodes) ≡ one_if (k == k + 0) + count (k + 0) (missing_from (k + 1) nodes) = sum_by-cons (λ q. one_if (q == k + 0)) k (missing_from (k + 1) nodes) in
      let same : k + 0 ≡ k = omega arith in
      let one : one_if (k == k + 0) ≡ 1 = ap (λ q. one_if (k == q)) same ∙ same_is k in
      omega arith
  by false z = z
count_from (suc p) k (x ∷ nodes) = by (is_missing x) (subst (λ r. count r (missing_from (k + 1) nodes) ≡ missing_at nodes p) e (count_from p (k + 1) nodes)) where
  e : (k + 1) + p ≡ k + suc p
  e = omega arith

  by : (b : Bool) → count (k + suc p) (missing_from (k + 1) nodes) ≡ missing_at nodes p → count (k + suc p) (if b then k ∷ missing_from (k + 1) nodes else missing_from (k + 1) nodes) ≡ missing_at nodes p
  by true h =
      let step : count (k + suc p) (k ∷ missing_from (k + 1) nodes) ≡ one_if (k == k + suc p) + count (k + suc p) (missing_from (k + 1) nodes) = sum_by-cons (λ q. one_if (q == k + suc p)) k (missing_from (k + 1) nodes) in
      let none : one_if (k == k + suc p) ≡ 0 = other_is k (k + suc p) (λ e. omega (arith, e)) in
      omega arith
  by false h = h

pub count_missing : (nodes : List Node) (p : ℕ) → count p (missing_among nodes) ≡ missing_at nodes p
count_missing nodes p =
    let e : 0 + p ≡ p = omega arith in
    subst (λ r. count r (missing_from 0 nodes) ≡ missing_at nodes p) e (count_from p 0 nodes)
