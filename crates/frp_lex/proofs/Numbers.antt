-- Numbers that digits write.
use Rattle.std.proofs.Common.{◌≡◌, ℕ, zero, suc, ◌+◌, ◌-◌, ◌*◌, ◌/◌, ◌%◌, ◌^◌, ◌<◌, ◌≤◌, Bool, true, false, List, [], ◌∷◌, ◌++◌, length, length-append, drop, get_or, Some, refl, sym, ap, ◌∙◌, arith, rules}
use Rattle.std.specs.Prelude.{pos, neg_ℤ, negsuc, ℤ, ◌==◌, not}
use Rattle.std.specs.List.{list_all}
use Rattle.std.specs.Fmt.{decimal, signed_decimal}
use Rattle.std.specs.Str.{bytes_eq}
use Rattle.std.proofs.lemmas.Fmt.{decimal_by_steps, decimal-digits_value}
use Rattle.std.proofs.lemmas.Str.Parse.{IsNumeralModel, numerals_by_fold}
use Rattle.std.proofs.lemmas.Slice.Eq.{bytes_eq-Decides}
use Rattle.std.proofs.lemmas.List.Folds.{list_all-append}
use Rattle.std.proofs.Math.Bool.{or-true}
use Rattle.std.proofs.lemmas.Grind.{common_steps}
use Rattle.frp_base.proofs.Booleans.{both_true, true_both}
use Rattle.frp_lex.specs.Bytes.{is_digit}
use Rattle.frp_lex.specs.Atoms.{number_from, value, fits_token, if_fits, is_plain_numeral, positive, negative, atom_number}

value_above : (n : ℕ) (bs : List ℕ) → n ≤ number_from n bs
value_above n [] = omega arith
value_above n (b ∷ bs) = omega (arith, value_above (10 * n + (b - 48)) bs)

pub value_over : (n i : ℕ) (bs : List ℕ) → i < length bs → 922337203685477580 < n → 2 ^ 63 < number_from n (drop i bs)
value_over n i [] lt large = absurd (omega arith)
value_over n zero (b ∷ bs) lt large = omega (arith, value_above (10 * n + (b - 48)) bs)
value_over n (suc i) (b ∷ bs) lt large = value_over n i bs (omega arith) large

-- a number of at most 2^63 has 64 bits behind a minus
pub negated : (n : ℕ) → n ≤ 2 ^ 63 → if_fits (neg_ℤ (pos n)) ≡ Some (neg_ℤ (pos n))
negated zero h = refl
negated (suc n) h = grind (arith, common_steps)

-- ---- a number is read as it is spelled

value_push : (m b : ℕ) (ds : List ℕ) → number_from m (ds ++ b ∷ []) ≡ 10 * number_from m ds + (b - 48)
value_push m b [] = refl
value_push m b (d ∷ ds) = value_push (10 * m + (d - 48)) b ds

value_decimal : (n : ℕ) → n < 2 ^ 64 → value (decimal n) ≡ n
value_decimal = decimal_by_steps (λ n ds. value ds ≡ n) (λ n lt. omega arith)
    (λ n ds ge h. value_push 0 (48 + n % 10) ds ∙ (omega arith))

digit_is : (n : ℕ) → n < 10 → is_digit (48 + n) ≡ true
digit_is n lt = grind arith

pub digits_decimal : (n : ℕ) → n < 2 ^ 64 → list_all is_digit (decimal n) ≡ true
digits_decimal = decimal_by_steps (λ n ds. list_all is_digit ds ≡ true) (λ n lt. rw (digit_is n lt) refl)
    (λ n ds ge h. list_all-append is_digit ds ((48 + n % 10) ∷ []) ∙ (let lt : n % 10 < 10 = omega arith in rw (h, digit_is (n % 10) lt) refl))

-- 0 is written 0, and another number by plain digits
abbrev IsNumeral : ℕ → List ℕ → Type 0
IsNumeral n ds = (n ≡ 0 → ds ≡ 48 ∷ []) × (0 < n → is_plain_numeral ds ≡ true)

one_digit : (n : ℕ) → n < 10 → IsNumeral n ((48 + n) ∷ [])
one_digit zero lt = (λ e. refl, λ h. absurd (omega arith))
one_digit (suc n) lt = (λ e. absurd (omega arith), λ h. let f : (48 + suc n == 48) ≡ false = grind arith in let g : is_digit (48 + suc n) ≡ true = digit_is (suc n) lt in rw (f, g) refl)

plain_push : (ds : List ℕ) (b : ℕ) → is_plain_numeral ds ≡ true → is_digit b ≡ true → is_plain_numeral (ds ++ b ∷ []) ≡ true
plain_push [] b h k = absurd cc
plain_push (d ∷ ds) b h k =
    let p = both_true (not (d == 48)) (list_all is_digit (d ∷ ds)) h in
    true_both (not (d == 48)) (list_all is_digit (d ∷ ds ++ b ∷ [])) p.0 (list_all-append is_digit (d ∷ ds) (b ∷ []) ∙ rw (p.1, k) refl)

numeral : (n : ℕ) → n < 2 ^ 64 → IsNumeral n (decimal n)
numeral = decimal_by_steps IsNumeral one_digit
    (λ n ds ge h. (λ e. absurd (omega arith), λ k. let lt : n % 10 < 10 = omega arith in let more : 0 < n / 10 = omega arith in plain_push ds (48 + n % 10) (h.1 more) (digit_is (n % 10) lt)))

pub decimal_some : (n : ℕ) → n < 2 ^ 64 → 0 < length (decimal n)
decimal_some = decimal_by_steps (λ n ds. 0 < length ds) (λ n lt. omega arith) (λ n ds ge h. omega (arith, length-append ds ((48 + n % 10) ∷ [])))

pub positive_decimal : (n : ℕ) → n < 2 ^ 63 → positive (decimal n) ≡ Some (pos n)
unfolding positive
positive_decimal zero lt = rw ((numeral 0 (omega arith)).0 refl) refl
positive_decimal (suc n) lt =
    let p : is_plain_numeral (decimal (suc n)) ≡ true = (numeral (suc n) (omega arith)).1 (omega arith) in
    let v : value (decimal (suc n)) ≡ suc n = value_decimal (suc n) (omega arith) in
    rw (p, or-true (bytes_eq (decimal (suc n)) (48 ∷ [])), v) (grind (arith, common_steps))

pub negative_decimal : (n : ℕ) → n < 2 ^ 63 → negative (decimal (suc n)) ≡ Some (negsuc n)
unfolding negative
negative_decimal n lt =
    let p : is_plain_numeral (decimal (suc n)) ≡ true = (numeral (suc n) (omega arith)).1 (omega arith) in
    let v : value (decimal (suc n)) ≡ suc n = value_decimal (suc n) (omega arith) in
    rw (p, v) (negated (suc n) (omega arith))

-- ---- a number is spelled as it is read

own : IsNumeralModel (λ ds. list_all is_digit ds ≡ true) value
own = numerals_by_fold _ (search rules) number_from (search rules)

if_fits_by : (y z : ℤ) (b : Bool) → fits_token y ≡ b → if_fits y ≡ Some z → (y ≡ z) × (fits_token z ≡ true)
if_fits_by y z true e h = let f : y ≡ z = let g = rw e at h in cc in (f, ap fits_token (sym f) ∙ e)
if_fits_by y z false e h = absurd (let f = rw e at h in cc)

if_fits_is : (y z : ℤ) → if_fits y ≡ Some z → (y ≡ z) × (fits_token z ≡ true)
if_fits_is y z h = if_fits_by y z (fits_token y) refl h

plain_first : (bs : List ℕ) → is_plain_numeral bs ≡ true → get_or bs 0 0 ≡ 48 → length bs ≡ 1
plain_first [] h e = absurd cc
plain_first (b ∷ bs) h e = let p = both_true (not (b == 48)) (list_all is_digit (b ∷ bs)) h in absurd (grind (arith, common_steps))

plain_digits : (bs : List ℕ) → is_plain_numeral bs ≡ true → list_all is_digit bs ≡ true
plain_digits [] h = absurd cc
plain_digits (b ∷ bs) h = (both_true (not (b == 48)) (list_all is_digit (b ∷ bs)) h).1

plain_some : (bs : List ℕ) → is_plain_numeral bs ≡ true → 0 < length bs
plain_some [] h = absurd cc
plain_some (b ∷ bs) h = omega arith

plain_spelled : (bs : List ℕ) → is_plain_numeral bs ≡ true → value bs < 2 ^ 64 → decimal (value bs) ≡ bs
plain_spelled bs h lt = decimal-digits_value own bs (plain_digits bs h) (plain_some bs h) (plain_first bs h) lt

fits_below : (n : ℕ) → fits_token (pos n) ≡ true → n < 2 ^ 63
fits_below n h = grind (arith, common_steps)

-- how a number is spelled that an atom is read as
abbrev pub IsSpelled : ℤ → List ℕ → Type 0
IsSpelled z bs = (fits_token z ≡ true) × (signed_decimal z ≡ bs)

positive_by : (bs : List ℕ) (z : ℤ) (q p : Bool) → bytes_eq bs (48 ∷ []) ≡ q → is_plain_numeral bs ≡ p → positive bs ≡ Some z → IsSpelled z bs
unfolding positive
positive_by bs z true p e d h =
    let is : bs ≡ 48 ∷ [] = (bytes_eq-Decides bs (48 ∷ [])).0 e in
    let f : if_fits (pos (value bs)) ≡ Some z = rw e at h in
    let g = if_fits_is (pos (value bs)) z f in
    let v : value bs ≡ 0 = ap value is in
    let w : z ≡ pos 0 = sym g.0 ∙ ap pos v in
    (g.1, rw (w, is) ((numeral 0 (omega arith)).0 refl))
positive_by bs z false true e d h =
    let f : if_fits (pos (value bs)) ≡ Some z = rw (e, d) at h in
    let g = if_fits_is (pos (value bs)) z f in
    let lt : value bs < 2 ^ 63 = fits_below (value bs) (ap fits_token g.0 ∙ g.1) in
    (g.1, rw (sym g.0) (plain_spelled bs d (omega arith)))
positive_by bs z false false e d h = absurd (let f = rw (e, d) at h in cc)

negated_spelled : (n : ℕ) (z : ℤ) (bs : List ℕ) → 0 < n → neg_ℤ (pos n) ≡ z → fits_token z ≡ true → (n < 2 ^ 64 → decimal n ≡ bs) → IsSpelled z (45 ∷ bs)
negated_spelled zero z bs some e f h = absurd (omega arith)
negated_spelled (suc n) z bs some e f h =
    let lt : n < 2 ^ 63 = let g : fits_token (negsuc n) ≡ true = ap fits_token e ∙ f in grind (arith, common_steps) in
    (f, rw (sym e) (ap (λ (ds : List ℕ). 45 ∷ ds) (h (omega arith))))

plain_above : (bs : List ℕ) → is_plain_numeral bs ≡ true → 0 < value bs
plain_above [] h = absurd cc
plain_above (b ∷ bs) h =
    let p = both_true (not (b == 48)) (list_all is_digit (b ∷ bs)) h in
    let q = both_true (is_digit b) (list_all is_digit bs) p.1 in
    let some : 48 < b = grind (arith, common_steps) in
    omega (arith, value_above (10 * 0 + (b - 48)) bs)

negative_by : (bs : List ℕ) (z : ℤ) (p : Bool) → is_plain_numeral bs ≡ p → negative bs ≡ Some z → IsSpelled z (45 ∷ bs)
unfolding negative
negative_by bs z true d h =
    let f : if_fits (neg_ℤ (pos (value bs))) ≡ Some z = rw d at h in
    let g = if_fits_is (neg_ℤ (pos (value bs))) z f in
    negated_spelled (value bs) z bs (plain_above bs d) g.0 g.1 (plain_spelled bs d)
negative_by bs z false d h = absurd (let f = rw d at h in cc)

number_by : (b : ℕ) (bs : List ℕ) (z : ℤ) (q : Bool) → (b == 45) ≡ q → atom_number (b ∷ bs) ≡ Some z → IsSpelled z (b ∷ bs)
number_by b bs z true e h =
    let is : b ≡ 45 = grind (arith, common_steps) in
    let r = negative_by bs z (is_plain_numeral bs) refl (rw e at h) in
    (r.0, r.1 ∙ ap (λ (c : ℕ). c ∷ bs) (sym is))
number_by b bs z false e h = positive_by (b ∷ bs) z (bytes_eq (b ∷ bs) (48 ∷ [])) (is_plain_numeral (b ∷ bs)) refl refl (rw e at h)

pub number_spelled : (bs : List ℕ) (z : ℤ) → atom_number bs ≡ Some z → IsSpelled z bs
number_spelled [] z h = absurd cc
number_spelled (b ∷ bs) z h = number_by b bs z (b == 45) refl h
