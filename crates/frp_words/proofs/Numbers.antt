-- The value of an option, by how std reads an `i64` and makes a `u32` of it.
use Rattle.std.proofs.Common.{◌≡◌, ◌<◌, ◌≤◌, ◌^◌, ℕ, Bool, true, false, List, length, None, Result, Ok, Err, refl, ap, ◌∙◌, arith, w64}
use Rattle.std.specs.Prelude.{ℤ, pos, negsuc, nat_le, nat_lt, ◌&&◌, FitsSigned, unsigned_abs}
use Rattle.std.specs.Int.{FitsUnsignedBits}
use Rattle.std.specs.Result.{OkIff}
use Rattle.std.specs.Str.{all_ascii_digits}
use Rattle.std.specs.Str.Parse.{ParsesSigned, IsNumeral, digits_value, without_leading_sign, signed_digits_value}
use Rattle.std.proofs.lemmas.Str.Parse.{IsNumeralModel, numerals_by_value, tells_all_ascii_digits}
use Rattle.std.proofs.lemmas.Int.{fits_signed_from_abs}
use Rattle.std.proofs.lemmas.Bool.Decides.{nat_tests}
use Rattle.frp_base.proofs.Booleans.{both_true, true_both}
use Rattle.frp_words.specs.declared.setting.Setting.{Setting}
use Rattle.frp_words.specs.declared.setting.Setting.TheVariants.{Workers, Count, Start}
use Rattle.frp_words.specs.CommandLine.{least, most, within, if_allowed, is_number, value_of}

most_bound : (o : Setting) → most o < 2 ^ 31
most_bound Workers = omega arith
most_bound Count = omega arith
most_bound Start = omega arith

within_by : (o : Setting) (n : ℕ) (b : Bool) → nat_le (least o) n && nat_le n (most o) ≡ b → 2 ^ 31 ≤ n → within o n ≡ None
within_by o n false e large = rw e refl
within_by o n true e large =
    let upper : nat_le n (most o) ≡ true = (both_true (nat_le (least o) n) (nat_le n (most o)) e).1 in
    let le : n ≤ most o = grind (arith, nat_tests) in
    let bound : most o < 2 ^ 31 = most_bound o in
    absurd (omega arith)

-- no option has a number of 2^31 or more
within_large : (o : Setting) (n : ℕ) → 2 ^ 31 ≤ n → within o n ≡ None
within_large o n large = within_by o n (nat_le (least o) n && nat_le n (most o)) refl large

-- ---- a `u32` of an `i64`

pub allowed_fits : {E : Type 0} (o : Setting) (z : ℤ) (r : Result ℕ E) (n : ℕ) → OkIff r (FitsUnsignedBits 32 z) (unsigned_abs z)
    → r ≡ Ok n → if_allowed o z ≡ within o n
allowed_fits o (pos m) (Ok k) n h e = let same : m ≡ n = cc in ap (within o) same
allowed_fits o (negsuc m) (Ok k) n h e = absurd h.0
allowed_fits o z (Err x) n h e = absurd cc

pub allowed_not : {E : Type 0} (o : Setting) (z : ℤ) (r : Result ℕ E) (x : E) → OkIff r (FitsUnsignedBits 32 z) (unsigned_abs z)
    → r ≡ Err x → if_allowed o z ≡ None
allowed_not o z (Ok k) x h e = absurd cc
allowed_not o (negsuc m) (Err y) x h e = refl
allowed_not o (pos m) (Err y) x h e =
    let large : 2 ^ 32 ≤ m = omega (arith, h) in
    within_large o m (omega arith)

-- ---- an `i64` of a text

own : IsNumeralModel (λ ds. all_ascii_digits ds ≡ true) (digits_value 10)
own = numerals_by_value (λ ds. all_ascii_digits ds ≡ true) tells_all_ascii_digits

number_of_numeral : (text : List ℕ) → IsNumeral 10 (without_leading_sign text) → is_number text ≡ true
number_of_numeral text n =
    let long : 0 < length (without_leading_sign text) = n.0 in
    let some : nat_lt 0 (length (without_leading_sign text)) ≡ true = grind (arith, nat_tests) in
    true_both (nat_lt 0 (length (without_leading_sign text))) (all_ascii_digits (without_leading_sign text))
    some (own.from (without_leading_sign text) n.1)

numeral_of_number : (text : List ℕ) → is_number text ≡ true → IsNumeral 10 (without_leading_sign text)
numeral_of_number text h =
    let p = both_true (nat_lt 0 (length (without_leading_sign text))) (all_ascii_digits (without_leading_sign text)) h in
    let some : nat_lt 0 (length (without_leading_sign text)) ≡ true = p.0 in
    let long : 0 < length (without_leading_sign text) = grind (arith, nat_tests) in
    (long, own.to (without_leading_sign text) p.1)

pub value_number : {E : Type 0} (o : Setting) (text : List ℕ) (r : Result ℤ E) (z : ℤ) → ParsesSigned w64 10 text r → r ≡ Ok z
    → value_of o text ≡ if_allowed o z
unfolding value_of
value_number o text (Err x) z h e = absurd cc
value_number o text (Ok y) z h e =
    let is : is_number text ≡ true = number_of_numeral text h.0.0 in
    let same : signed_digits_value 10 text ≡ z = cc in
    rw is (ap (if_allowed o) same)

large_by : (n : ℕ) (b : Bool) → nat_lt n (2 ^ 63) ≡ b → (FitsSigned w64 (pos n) → ⊥) → 2 ^ 31 ≤ n
large_by n false e large = grind (arith, nat_tests)
large_by n true e large =
    let small : n < 2 ^ 63 = grind (arith, nat_tests) in
    absurd (large (fits_signed_from_abs w64 (pos n) small))

allowed_large : (o : Setting) (z : ℤ) → (FitsSigned w64 z → ⊥) → if_allowed o z ≡ None
allowed_large o (negsuc n) large = refl
allowed_large o (pos n) large = within_large o n (large_by n (nat_lt n (2 ^ 63)) refl large)

value_none : (o : Setting) (text : List ℕ) (b : Bool) → is_number text ≡ b
    → (IsNumeral 10 (without_leading_sign text) × FitsSigned w64 (signed_digits_value 10 text) → ⊥) → value_of o text ≡ None
unfolding value_of
value_none o text false e h = rw e refl
value_none o text true e h =
    rw e (allowed_large o (signed_digits_value 10 text) (λ fits. h (numeral_of_number text e, fits)))

pub value_not : {E : Type 0} (o : Setting) (text : List ℕ) (r : Result ℤ E) (x : E) → ParsesSigned w64 10 text r → r ≡ Err x
    → value_of o text ≡ None
value_not o text (Ok y) x h e = absurd cc
value_not o text (Err y) x h e = value_none o text (is_number text) refl h
