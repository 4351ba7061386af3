-- A lawful token is read at the front of its spelling, whatever follows that is no part of it.
use Rattle.std.proofs.Common.{◌≡◌, ℕ, suc, ◌+◌, ◌^◌, ◌<◌, ◌≤◌, true, false, List, [], ◌∷◌, ◌++◌, length, take, drop, Some, Ok, refl, ap, ◌∙◌, append_assoc, length-append, arith}
use Rattle.std.specs.Prelude.{ℤ, pos, negsuc, ◌==◌, ◌||◌, nat_le, slice_index}
use Rattle.std.specs.List.{list_all, prefix_len}
use Rattle.std.specs.Fmt.{decimal, signed_decimal}
use Rattle.std.proofs.Math.Seq.{take-append_seam}
use Rattle.std.proofs.lemmas.Grind.{common_steps}
use Rattle.frp_base.specs.Val.{escaped}
use Rattle.frp_base.proofs.Booleans.{both_true, true_both}
use Rattle.frp_lex.specs.declared.token.Kind.{Kind}
use Rattle.frp_lex.specs.declared.token.Kind.TheVariants as k
use Rattle.frp_lex.specs.Gives.{LexOutcome}
use Rattle.frp_lex.specs.Bytes.{is_blank, is_lower_case, is_upper, is_letter, is_digit, is_in_name, is_in_atom, is_in_text}
use Rattle.frp_lex.specs.Atoms.{fits_token, is_name, positive, negative, name_most}
use Rattle.frp_lex.specs.Quoted.{closing_quote, text_most}
use Rattle.frp_lex.specs.Tokens.{Piece, atom_from, atom_piece, text, front}
use Rattle.frp_lex.specs.Spelling.{spelled, is_lawful_token}
use Rattle.frp_lex.specs.Written.{ends_atom, is_parted}
use Rattle.frp_lex.proofs.Runs.{ends, run, all_pass}
use Rattle.frp_lex.proofs.Numbers.{digits_decimal, decimal_some, positive_decimal, negative_decimal}
use Rattle.frp_lex.proofs.Quotes.{closes, unescapes, good}

-- what stands at the front of these bytes, of which there is one at least
abbrev pub front_of : ℕ → List ℕ → LexOutcome Piece
front_of at bs = front at (slice_index bs 0) (drop 1 bs)

-- ---- atoms

abbrev AtomByte : ℕ → Type 0
AtomByte b = (is_blank b ≡ false) × ((b == 59) ≡ false) × ((b == 40) ≡ false) × ((b == 41) ≡ false) × ((b == 34) ≡ false)

atom_byte : (b : ℕ) → is_in_atom b ≡ true → AtomByte b
atom_byte b h = (grind (arith, common_steps), grind (arith, common_steps), grind (arith, common_steps), grind (arith, common_steps), grind (arith, common_steps))

atom_ends : (rest : List ℕ) → ends_atom rest ≡ true → ends is_in_atom rest ≡ true
atom_ends [] e = refl
atom_ends (b ∷ rest) e = e

pub atom_front : (at b : ℕ) (bs rest : List ℕ) → list_all is_in_atom (b ∷ bs) ≡ true → ends_atom rest ≡ true → front at b (bs ++ rest) ≡ atom_piece at (b ∷ bs)
unfolding front
atom_front at b bs rest h e =
    let p = both_true (is_in_atom b) (list_all is_in_atom bs) h in
    let q = atom_byte b p.0 in
    let m : prefix_len is_in_atom (bs ++ rest) ≡ length bs = run is_in_atom bs rest p.1 (atom_ends rest e) in
    let n : 1 + prefix_len is_in_atom (bs ++ rest) ≡ length (b ∷ bs) = omega arith in
    rw (q.0, q.1, q.2, q.3, q.4, p.0) (ap (λ i. atom_piece at (take i (b ∷ bs ++ rest))) n ∙ ap (atom_piece at) (take-append_seam (b ∷ bs) rest))

pub name_in_atom : (b : ℕ) → is_in_name b ≡ true → is_in_atom b ≡ true
name_in_atom b h = grind (arith, common_steps)

pub letter_in_atom : (b : ℕ) → is_letter b ≡ true → is_in_atom b ≡ true
letter_in_atom b h = grind (arith, common_steps)

pub digit_in_atom : (b : ℕ) → is_digit b ≡ true → is_in_atom b ≡ true
digit_in_atom b h = grind (arith, common_steps)

pub lower_in_name : (b : ℕ) → is_lower_case b ≡ true → is_in_name b ≡ true
lower_in_name b h = grind (arith, common_steps)

pub upper_is_letter : (b : ℕ) → is_upper b ≡ true → is_letter b ≡ true
upper_is_letter b h = grind (arith, common_steps)

lower_no_number : (b : ℕ) → is_lower_case b ≡ true → (is_digit b || b == 45) ≡ false
lower_no_number b h = grind (arith, common_steps)

upper_no_number : (b : ℕ) → is_upper b ≡ true → (is_digit b || b == 45) ≡ false
upper_no_number b h = grind (arith, common_steps)

upper_not_lower : (b : ℕ) → is_upper b ≡ true → is_lower_case b ≡ false
upper_not_lower b h = grind (arith, common_steps)

digit_no_minus : (b : ℕ) → is_digit b ≡ true → (b == 45) ≡ false
digit_no_minus b h = grind (arith, common_steps)

-- how an atom that is spelled so is read
abbrev IsRead : Kind → List ℕ → Type 0
IsRead kind bs = (at : ℕ) (rest : List ℕ) → ends_atom rest ≡ true → front_of at (bs ++ rest) ≡ Ok (Some kind, length bs)

name_read : (t : List ℕ) → is_lawful_token (k.Name t) ≡ true → IsRead (k.Name t) t
unfolding atom_from
name_read [] h = absurd cc
name_read (b ∷ t) h = λ at rest e.
    let p = both_true (is_name (b ∷ t)) (nat_le (length (b ∷ t)) name_most) h in
    let q = both_true (is_lower_case b) (list_all is_in_name t) p.0 in
    let all : list_all is_in_atom (b ∷ t) ≡ true = true_both (is_in_atom b) (list_all is_in_atom t) (name_in_atom b (lower_in_name b q.0)) (all_pass is_in_name is_in_atom name_in_atom t q.1) in
    atom_front at b t rest all e ∙ rw (lower_no_number b q.0, p.0, p.1) refl

word_read : (t : List ℕ) → is_lawful_token (k.Word t) ≡ true → IsRead (k.Word t) t
unfolding atom_from
word_read [] h = absurd cc
word_read (b ∷ t) h = λ at rest e.
    let q = both_true (is_upper b) (list_all is_letter t) h in
    let all : list_all is_in_atom (b ∷ t) ≡ true = true_both (is_in_atom b) (list_all is_in_atom t) (letter_in_atom b (upper_is_letter b q.0)) (all_pass is_letter is_in_atom letter_in_atom t q.1) in
    atom_front at b t rest all e ∙ rw (upper_no_number b q.0, upper_not_lower b q.0, q.0, q.1) refl

digits_read : (n : ℕ) (ds : List ℕ) → list_all is_digit ds ≡ true → positive ds ≡ Some (pos n) → 0 < length ds → IsRead (k.Num (pos n)) ds
unfolding atom_from
digits_read n [] h p some = absurd (omega arith)
digits_read n (d ∷ ds) h p some = λ at rest e.
    let q = both_true (is_digit d) (list_all is_digit ds) h in
    let all : list_all is_in_atom (d ∷ ds) ≡ true = all_pass is_digit is_in_atom digit_in_atom (d ∷ ds) h in
    atom_front at d ds rest all e ∙ rw (q.0, digit_no_minus d q.0, p) refl

minus_read : (n : ℕ) (ds : List ℕ) → list_all is_digit ds ≡ true → negative ds ≡ Some (negsuc n) → IsRead (k.Num (negsuc n)) (45 ∷ ds)
unfolding atom_from
minus_read n ds h p = λ at rest e.
    let all : list_all is_in_atom (45 ∷ ds) ≡ true = all_pass is_digit is_in_atom digit_in_atom ds h in
    atom_front at 45 ds rest all e ∙ rw p refl

number_read : (z : ℤ) → fits_token z ≡ true → IsRead (k.Num z) (signed_decimal z)
number_read (pos n) h = let lt : n < 2 ^ 63 = grind (arith, common_steps) in digits_read n (decimal n) (digits_decimal n (omega arith)) (positive_decimal n lt) (decimal_some n (omega arith))
number_read (negsuc n) h = let lt : n < 2 ^ 63 = grind (arith, common_steps) in minus_read n (decimal (suc n)) (digits_decimal (suc n) (omega arith)) (negative_decimal n lt)

number_some : (z : ℤ) → fits_token z ≡ true → 1 ≤ length (signed_decimal z)
number_some (pos n) h = let lt : n < 2 ^ 63 = grind (arith, common_steps) in decimal_some n (omega arith)
number_some (negsuc n) h = omega arith

-- ---- texts

text_piece : (at : ℕ) (t rest : List ℕ) → list_all is_in_text t ≡ true → nat_le (length t) text_most ≡ true → text at (escaped t ++ 34 ∷ rest) ≡ Ok (Some (k.Str t), length (escaped t) + 2)
unfolding text
text_piece at t rest h m =
    let c : closing_quote false 0 (escaped t ++ 34 ∷ rest) ≡ Some (length (escaped t)) = closes 0 t rest ∙ ap Some (omega arith) in
    rw (c, take-append_seam (escaped t) (34 ∷ rest), good 0 t h, unescapes t, m) refl

text_read : (t : List ℕ) → is_lawful_token (k.Str t) ≡ true → (at : ℕ) (rest : List ℕ) → front_of at (spelled (k.Str t) ++ rest) ≡ Ok (Some (k.Str t), length (spelled (k.Str t)))
unfolding front
text_read t h at rest =
    let p = both_true (list_all is_in_text t) (nat_le (length t) text_most) h in
    let n : length (escaped t) + 2 ≡ length (spelled (k.Str t)) = omega (arith, length-append (escaped t) (34 ∷ [])) in
    rw (append_assoc (escaped t) (34 ∷ []) rest) (text_piece at t rest p.0 p.1 ∙ ap (λ i. Ok (Some (k.Str t), i)) n)

-- ---- all tokens

pub kind_read : (kind : Kind) → is_lawful_token kind ≡ true → (at : ℕ) (rest : List ℕ) → is_parted kind rest ≡ true → front_of at (spelled kind ++ rest) ≡ Ok (Some kind, length (spelled kind))
unfolding front
kind_read k.Left h at rest p = refl
kind_read k.Right h at rest p = refl
kind_read (k.Name t) h at rest p = name_read t h at rest p
kind_read (k.Word t) h at rest p = word_read t h at rest p
kind_read (k.Num z) h at rest p = number_read z h at rest p
kind_read (k.Str t) h at rest p = text_read t h at rest

pub kind_some : (kind : Kind) → is_lawful_token kind ≡ true → 1 ≤ length (spelled kind)
kind_some k.Left h = omega arith
kind_some k.Right h = omega arith
kind_some (k.Name []) h = absurd cc
kind_some (k.Name (b ∷ t)) h = omega arith
kind_some (k.Word []) h = absurd cc
kind_some (k.Word (b ∷ t)) h = omega arith
kind_some (k.Num z) h = number_some z h
kind_some (k.Str t) h = omega arith
