-- Names, words and texts without bad bytes have bytes below 128 alone.
use Rattle.std.proofs.Common.{◌≡◌, ℕ, zero, suc, ◌+◌, ◌<◌, Bool, true, false, List, [], ◌∷◌, None, refl, arith}
use Rattle.std.specs.Prelude.{◌==◌}
use Rattle.std.specs.List.{list_all}
use Rattle.std.specs.Str.{IsAscii}
use Rattle.std.proofs.lemmas.Grind.{common_steps}
use Rattle.frp_base.proofs.Booleans.{both_true}
use Rattle.frp_lex.specs.Bytes.{is_lower_case, is_upper, is_letter, is_in_name, is_in_text, is_escaped}
use Rattle.frp_lex.specs.Atoms.{is_name, is_word}
use Rattle.frp_lex.specs.Quoted.{first_bad}

all_ascii : (p : ℕ → Bool) → ((b : ℕ) → p b ≡ true → b < 128) → (bs : List ℕ) → list_all p bs ≡ true → IsAscii bs
all_ascii p below [] h i = omega arith
all_ascii p below (b ∷ bs) h zero = below b (both_true (p b) (list_all p bs) h).0
all_ascii p below (b ∷ bs) h (suc i) = all_ascii p below bs (both_true (p b) (list_all p bs) h).1 i

lower_below : (b : ℕ) → is_lower_case b ≡ true → b < 128
lower_below b h = grind (arith, common_steps)

upper_below : (b : ℕ) → is_upper b ≡ true → b < 128
upper_below b h = grind (arith, common_steps)

letter_below : (b : ℕ) → is_letter b ≡ true → b < 128
letter_below b h = grind (arith, common_steps)

in_name_below : (b : ℕ) → is_in_name b ≡ true → b < 128
in_name_below b h = grind (arith, common_steps)

in_text_below : (b : ℕ) → is_in_text b ≡ true → b < 128
in_text_below b h = grind (arith, common_steps)

escaped_below : (b : ℕ) → is_escaped b ≡ true → b < 128
escaped_below b h = grind (arith, common_steps)

pub name_is_ascii : (bs : List ℕ) → is_name bs ≡ true → IsAscii bs
name_is_ascii [] h i = omega arith
name_is_ascii (b ∷ bs) h zero = lower_below b (both_true (is_lower_case b) (list_all is_in_name bs) h).0
name_is_ascii (b ∷ bs) h (suc i) = all_ascii is_in_name in_name_below bs (both_true (is_lower_case b) (list_all is_in_name bs) h).1 i

pub word_is_ascii : (bs : List ℕ) → is_word bs ≡ true → IsAscii bs
word_is_ascii [] h i = omega arith
word_is_ascii (b ∷ bs) h zero = upper_below b (both_true (is_upper b) (list_all is_letter bs) h).0
word_is_ascii (b ∷ bs) h (suc i) = all_ascii is_letter letter_below bs (both_true (is_upper b) (list_all is_letter bs) h).1 i

good_by : (e : Bool) (n b : ℕ) (bs : List ℕ) (q s : Bool) → is_in_text b ≡ q → is_escaped b ≡ s → first_bad e n (b ∷ bs) ≡ None → ((e : Bool) (n : ℕ) → first_bad e n bs ≡ None → IsAscii bs) → IsAscii (b ∷ bs)
good_by true n b bs q true p r h ih zero = escaped_below b r
good_by true n b bs q true p r h ih (suc i) = ih false (n + 1) (rw r at h) i
good_by true n b bs q false p r h ih i = absurd (let k = rw r at h in cc)
good_by false n b bs true s p r h ih zero = in_text_below b p
good_by false n b bs true s p r h ih (suc i) = ih (b == 92) (n + 1) (rw p at h) i
good_by false n b bs false s p r h ih i = absurd (let k = rw p at h in cc)

pub good_is_ascii : (e : Bool) (n : ℕ) (bs : List ℕ) → first_bad e n bs ≡ None → IsAscii bs
good_is_ascii e n [] h = λ i. omega arith
good_is_ascii e n (b ∷ bs) h = good_by e n b bs (is_in_text b) (is_escaped b) refl refl h (λ d m. good_is_ascii d m bs)
