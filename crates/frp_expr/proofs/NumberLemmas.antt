-- What the operators give is a whole number of 64 bits, or a text.
use Rattle.std.proofs.Common.{◌≡◌, ℕ, zero, suc, ◌+◌, ◌*◌, ◌/◌, ◌%◌, ◌^◌, ◌<◌, ◌≤◌, Bool, true, false, List, [], ◌∷◌, ◌++◌, length, take, refl, arith}
use Rattle.std.specs.Prelude.{ℤ, pos, negsuc, neg_ℤ, nat_lt, nat_le, int_div, int_rem, if◌then◌else◌}
use Rattle.std.specs.Int.{w64}
use Rattle.std.specs.Int.Signed.{mag, mag_rem}
use Rattle.std.specs.Ordering.{int_eq}
use Rattle.std.specs.List.{list_all}
use Rattle.std.specs.Fmt.{decimal, signed_decimal}
use Rattle.std.proofs.Math.Nat.{div-le_self, div-mul-le_self}
use Rattle.std.proofs.lemmas.Int.{SFits-int_wrap}
use Rattle.std.proofs.lemmas.Grind.{common_steps}
use Rattle.std.proofs.lemmas.Fmt.{length_signed_le, decimal_by_steps}
use Rattle.std.proofs.lemmas.List.Folds.{list_all-append}
use Rattle.frp_base.proofs.Booleans.{both_true}
use Rattle.frp_expr.specs.Operators.{wrapped, quotient, remainder, most, cut}
use Rattle.frp_expr.specs.Types.{fits, is_printable, is_text}

pub fits_mag : (z : ℤ) → mag z < 2 ^ 63 → fits z ≡ true
fits_mag (pos n) h = grind (arith, common_steps)
fits_mag (negsuc n) h = grind (arith, common_steps)

pub mag_fits : (z : ℤ) → fits z ≡ true → mag z < 2 ^ 63
mag_fits (pos n) h = grind (arith, common_steps)
mag_fits (negsuc n) h = grind (arith, common_steps)

pub wrapped_fits : (z : ℤ) → fits (wrapped z) ≡ true
wrapped_fits z = fits_mag (wrapped z) (SFits-int_wrap w64 z).sfits

remainder_by : (z : Bool) (a b : ℤ) → fits a ≡ true → fits (if z then pos 0 else int_rem a b) ≡ true
remainder_by true a b h = refl
remainder_by false a b h = let m = mag_rem a b in let k = mag_fits a h in fits_mag (int_rem a b) (omega arith)

pub remainder_fits : (a b : ℤ) → fits a ≡ true → fits (remainder a b) ≡ true
remainder_fits a b h = remainder_by (int_eq b (pos 0)) a b h

negated_fits : (n : ℕ) → n ≤ 2 ^ 63 → fits (neg_ℤ (pos n)) ≡ true
negated_fits zero h = refl
negated_fits (suc n) h = fits_mag (negsuc n) (omega arith)

-- half of a number at most
half : (a b : ℕ) → a ≤ 2 ^ 63 → a / suc (suc b) < 2 ^ 63
half a b h =
    let m : a / suc (suc b) * suc (suc b) ≤ a = div-mul-le_self a (suc (suc b)) in
    let k : a / suc (suc b) * suc (suc b) ≡ a / suc (suc b) * b + (a / suc (suc b) + a / suc (suc b)) = grind arith in
    omega arith

divided_fits : (a b : ℤ) → fits a ≡ true → int_eq b (negsuc 0) ≡ false → fits (int_div a b) ≡ true
divided_fits (pos a) (pos b) h e = let k = mag_fits (pos a) h in let d = div-le_self a b in fits_mag (pos (a / b)) (omega arith)
divided_fits (pos a) (negsuc b) h e = let k = mag_fits (pos a) h in let d = div-le_self a (suc b) in negated_fits (a / suc b) (omega arith)
divided_fits (negsuc a) (pos b) h e = let k = mag_fits (negsuc a) h in let d = div-le_self (suc a) b in negated_fits (suc a / b) (omega arith)
divided_fits (negsuc a) (negsuc zero) h e = absurd cc
divided_fits (negsuc a) (negsuc (suc b)) h e = let k = mag_fits (negsuc a) h in fits_mag (pos (suc a / suc (suc b))) (half (suc a) b (omega arith))

quotient_by : (z one : Bool) (a b : ℤ) → fits a ≡ true → int_eq b (negsuc 0) ≡ one → fits (if z then pos 0 else (if one then wrapped (neg_ℤ a) else int_div a b)) ≡ true
quotient_by true one a b h e = refl
quotient_by false true a b h e = wrapped_fits (neg_ℤ a)
quotient_by false false a b h e = divided_fits a b h e

pub quotient_fits : (a b : ℤ) → fits a ≡ true → fits (quotient a b) ≡ true
quotient_fits a b h = quotient_by (int_eq b (pos 0)) (int_eq b (negsuc 0)) a b h refl

pub length_fits : (n : ℕ) → nat_le n most ≡ true → fits (pos n) ≡ true
length_fits n h = let k : n ≤ most = grind (arith, common_steps) in fits_mag (pos n) (omega arith)

-- texts
digit_prints : (m : ℕ) → m < 10 → is_printable (48 + m) ≡ true
digit_prints m h = grind (arith, common_steps)

digits_more : (m : ℕ) (ds : List ℕ) → list_all is_printable ds ≡ true → list_all is_printable (ds ++ (48 + m % 10) ∷ []) ≡ true
digits_more m ds h = rw (list_all-append is_printable ds ((48 + m % 10) ∷ []), h, digit_prints (m % 10) (omega arith)) refl

digits_one : (m : ℕ) → m < 10 → list_all is_printable ((48 + m) ∷ []) ≡ true
digits_one m h = rw (digit_prints m h) refl

decimal_prints : (m : ℕ) → m < 2 ^ 64 → list_all is_printable (decimal m) ≡ true
decimal_prints = decimal_by_steps (λ m ds. list_all is_printable ds ≡ true) digits_one (λ m ds h k. digits_more m ds k)

signed_prints : (z : ℤ) → mag z < 2 ^ 63 → list_all is_printable (signed_decimal z) ≡ true
signed_prints (pos m) h = decimal_prints m (omega arith)
signed_prints (negsuc m) h = decimal_prints (suc m) (omega arith)

is_text_by : (s : List ℕ) → list_all is_printable s ≡ true → length s ≤ most → is_text s ≡ true
is_text_by s p h = let k : nat_le (length s) most ≡ true = grind (arith, common_steps) in rw (p, k) refl

pub shown_is_text : (z : ℤ) → fits z ≡ true → is_text (signed_decimal z) ≡ true
shown_is_text z h =
    let m = mag_fits z h in
    is_text_by (signed_decimal z) (signed_prints z m) (let k : length (signed_decimal z) ≤ 20 + 1 = length_signed_le 20 z (omega arith) m in omega arith)

prints_in : (s : List ℕ) → is_text s ≡ true → list_all is_printable s ≡ true
prints_in s h = (both_true (list_all is_printable s) (nat_le (length s) most) h).0

printable_small : (b : ℕ) → is_printable b ≡ true → nat_lt b 128 ≡ true
printable_small b h = grind (arith, common_steps)

small_all : (s : List ℕ) → list_all is_printable s ≡ true → list_all (λ b. nat_lt b 128) s ≡ true
small_all [] h = refl
small_all (b ∷ s) h =
    let p = both_true (is_printable b) (list_all is_printable s) h in
    rw (printable_small b p.0, small_all s p.1) refl

prints_take : (n : ℕ) (s : List ℕ) → list_all is_printable s ≡ true → list_all is_printable (take n s) ≡ true
prints_take zero s h = refl
prints_take (suc n) [] h = refl
prints_take (suc n) (b ∷ s) h =
    let p = both_true (is_printable b) (list_all is_printable s) h in
    rw (p.0, prints_take n s p.1) refl

pub length_take : {A : Type 0} (n : ℕ) (s : List A) → length (take n s) ≤ n
length_take zero s = omega arith
length_take (suc n) [] = omega arith
length_take (suc n) (b ∷ s) = let h = length_take n s in omega arith

cut_is_text : (s : List ℕ) → list_all is_printable s ≡ true → is_text (cut s) ≡ true
cut_is_text s h = rw (small_all s h) (is_text_by (take most s) (prints_take most s h) (length_take most s))

pub joined_is_text : (s u : List ℕ) → is_text s ≡ true → is_text u ≡ true → is_text (cut (s ++ u)) ≡ true
joined_is_text s u p q = cut_is_text (s ++ u) (rw (list_all-append is_printable s u, prints_in s p, prints_in u q) refl)
