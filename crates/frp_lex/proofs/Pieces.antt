-- What stands at the front of bytes that are read: a token in its spelling, a blank or a comment.
use Rattle.std.proofs.Common.{◌≡◌, ℕ, ◌+◌, Bool, true, false, ◌⊎◌, inl, inr, List, [], ◌∷◌, ◌++◌, length, take, drop, Option, Some, None, Ok, Err, refl, sym, ap, ◌∙◌, subst, append_assoc, length-append, arith}
use Rattle.std.specs.Prelude.{ℤ, ◌==◌, ◌||◌, nat_le, slice_index}
use Rattle.std.specs.List.{list_all, prefix_len}
use Rattle.std.proofs.Math.Seq.{take-append_seam}
use Rattle.std.proofs.lemmas.List.{take-append-drop}
use Rattle.std.proofs.lemmas.List.Folds.{length-prefix_len}
use Rattle.std.proofs.lemmas.Grind.{common_steps}
use Rattle.frp_base.specs.Val.{escaped}
use Rattle.frp_base.proofs.Booleans.{true_both}
use Rattle.frp_lex.specs.declared.token.Kind.{Kind}
use Rattle.frp_lex.specs.declared.token.Kind.TheVariants as k
use Rattle.frp_lex.specs.Gives.{LexOutcome, ◌>>=◌}
use Rattle.frp_lex.specs.Bytes.{is_blank, is_digit, is_in_atom, is_in_comment, is_in_text}
use Rattle.frp_lex.specs.Atoms.{atom_number, is_name, is_word, name_most}
use Rattle.frp_lex.specs.Quoted.{closing_quote, first_bad, unescaped, text_most}
use Rattle.frp_lex.specs.Tokens.{Piece, number_or_fault, atom, atom_from, atom_piece, text, text_closed, text_inside, front}
use Rattle.frp_lex.specs.Spelling.{spelled, is_lawful_token}
use Rattle.frp_lex.specs.Written.{ends_atom, is_parted}
use Rattle.frp_lex.proofs.Runs.{ends, run_passes, run_ends}
use Rattle.frp_lex.proofs.Numbers.{number_spelled}
use Rattle.frp_lex.proofs.Quotes.{closed, is_inside, is_value}

-- a blank, or a comment up to its line feed or the end
abbrev pub IsPassed : List ℕ → List ℕ → Type 0
IsPassed [] rest = ⊥
IsPassed (b ∷ bs) rest = ((bs ≡ []) × (is_blank b ≡ true)) ⊎ ((b ≡ 59) × (list_all is_in_comment bs ≡ true) × (ends is_in_comment rest ≡ true))

-- a token at the front, of these many bytes
pub record TokenFront (kind : Kind) (n : ℕ) (bs : List ℕ) : Type 0 where
  pub rest : List ℕ
  pub parts : bs ≡ spelled kind ++ rest
  pub counted : n ≡ length (spelled kind)
  pub lawful : is_lawful_token kind ≡ true
  pub parted : is_parted kind rest ≡ true

-- what is passed over at the front
pub record PassedFront (n : ℕ) (bs : List ℕ) : Type 0 where
  pub passed : List ℕ
  pub rest : List ℕ
  pub parts : bs ≡ passed ++ rest
  pub counted : n ≡ length passed
  pub is : IsPassed passed rest

abbrev pub IsFront : Piece → List ℕ → Type 0
IsFront (None, n) bs = PassedFront n bs
IsFront (Some kind, n) bs = TokenFront kind n bs

pub ok_same : {A : Type 0} (P : A → Type 0) (a c : A) → ◌≡◌ {A = LexOutcome A} (Ok a) (Ok c) → P a → P c
ok_same P a c e p = let f : a ≡ c = cc in subst P f p

-- ---- atoms

-- how an atom is spelled that is read as this
abbrev IsAtom : Kind → List ℕ → Type 0
IsAtom kind bs = (spelled kind ≡ bs) × (is_lawful_token kind ≡ true) × ((rest : List ℕ) → ends_atom rest ≡ true → is_parted kind rest ≡ true)

number_is : (at : ℕ) (bs : List ℕ) (kind : Kind) (o : Option ℤ) → atom_number bs ≡ o → number_or_fault at o ≡ Ok kind → IsAtom kind bs
number_is at bs kind None e h = absurd cc
number_is at bs kind (Some z) e h = let p = number_spelled bs z e in ok_same (λ c. IsAtom c bs) (k.Num z) kind h (p.1, p.0, λ rest r. r)

atom_by : (at b : ℕ) (bs : List ℕ) (kind : Kind) (q n l w : Bool) → (is_digit b || b == 45) ≡ q → is_name bs ≡ n → nat_le (length bs) name_most ≡ l → is_word bs ≡ w → atom_from b at bs ≡ Ok kind → IsAtom kind bs
unfolding atom_from
atom_by at b bs kind true n l w e f g d h = number_is at bs kind (atom_number bs) refl (rw e at h)
atom_by at b bs kind false true true w e f g d h = ok_same (λ c. IsAtom c bs) (k.Name bs) kind (rw (e, f, g) at h) (refl, true_both (is_name bs) (nat_le (length bs) name_most) f g, λ rest r. r)
atom_by at b bs kind false true false w e f g d h = absurd (let i = rw (e, f, g) at h in cc)
atom_by at b bs kind false false l true e f g d h = ok_same (λ c. IsAtom c bs) (k.Word bs) kind (rw (e, f, d) at h) (refl, d, λ rest r. r)
atom_by at b bs kind false false l false e f g d h = absurd (let i = rw (e, f, d) at h in cc)

atom_is : (at : ℕ) (bs : List ℕ) (kind : Kind) → atom at bs ≡ Ok kind → IsAtom kind bs
atom_is at bs kind h = atom_by at (slice_index bs 0) bs kind (is_digit (slice_index bs 0) || slice_index bs 0 == 45) (is_name bs) (nat_le (length bs) name_most) (is_word bs) refl refl refl refl h

ends_is_ends_atom : (rest : List ℕ) → ends is_in_atom rest ≡ true → ends_atom rest ≡ true
ends_is_ends_atom [] e = refl
ends_is_ends_atom (b ∷ rest) e = e

atom_piece_by : (at : ℕ) (bs run rest : List ℕ) (c : Piece) (r : LexOutcome Kind) → atom at run ≡ r → bs ≡ run ++ rest → ends is_in_atom rest ≡ true → (r >>= λ kind. Ok (Some kind, length run)) ≡ Ok c → IsFront c bs
atom_piece_by at bs run rest c (Err f) e p q h = absurd cc
atom_piece_by at bs run rest c (Ok kind) e p q h =
    let a = atom_is at run kind e in
    ok_same (λ c. IsFront c bs) (Some kind, length run) c h
    (record { rest = rest; parts = p ∙ ap (λ (x : List ℕ). x ++ rest) (sym a.0); counted = ap length (sym a.0); lawful = a.1; parted = a.2 rest (ends_is_ends_atom rest q) })

atom_piece_is : (at : ℕ) (bs : List ℕ) (c : Piece) → atom_piece at (take (prefix_len is_in_atom bs) bs) ≡ Ok c → IsFront c bs
atom_piece_is at bs c h =
    let n = prefix_len is_in_atom bs in
    atom_piece_by at bs (take n bs) (drop n bs) c (atom at (take n bs)) refl (sym (take-append-drop n bs)) (run_ends is_in_atom bs) h

-- ---- texts

text_inside_is : (at : ℕ) (inside rest : List ℕ) (c : Piece) (bad : Option ℕ) (s : Bool) → first_bad false 0 inside ≡ bad → nat_le (length (unescaped false inside)) text_most ≡ s
    → escaped (unescaped false inside) ≡ inside × list_all is_in_text (unescaped false inside) ≡ true → text_inside at inside bad ≡ Ok c → IsFront c (34 ∷ inside ++ 34 ∷ rest)
text_inside_is at inside rest c (Some bad) s e f v h = absurd cc
text_inside_is at inside rest c None false e f v h = absurd (let g = rw f at h in cc)
text_inside_is at inside rest c None true e f v h =
    let t = unescaped false inside in
    let n : length inside + 2 ≡ length (spelled (k.Str t)) = let m : length (escaped t) ≡ length inside = ap length v.0 in omega (arith, length-append (escaped t) (34 ∷ [])) in
    ok_same (λ c. IsFront c (34 ∷ inside ++ 34 ∷ rest)) (Some (k.Str t), length inside + 2) c (rw f at h)
    (record {
      rest = rest;
      parts = ap (λ (x : List ℕ). 34 ∷ x) (ap (λ (x : List ℕ). x ++ 34 ∷ rest) (sym v.0) ∙ sym (append_assoc (escaped t) (34 ∷ []) rest));
      counted = n;
      lawful = true_both (list_all is_in_text t) (nat_le (length t) text_most) v.1 f;
      parted = refl;
    })

text_inside_by : (at : ℕ) (inside rest : List ℕ) (c : Piece) (bad : Option ℕ) → first_bad false 0 inside ≡ bad → is_inside false inside ≡ true → text_inside at inside bad ≡ Ok c → IsFront c (34 ∷ inside ++ 34 ∷ rest)
text_inside_by at inside rest c (Some bad) e i h = absurd cc
text_inside_by at inside rest c None e i h = text_inside_is at inside rest c None (nat_le (length (unescaped false inside)) text_most) e refl (is_value false 0 inside i e) h

text_closed_is : (at : ℕ) (bs : List ℕ) (c : Piece) (m : Option ℕ) → closing_quote false 0 bs ≡ m → text_closed at bs m ≡ Ok c → IsFront c (34 ∷ bs)
text_closed_is at bs c None e h = absurd cc
text_closed_is at bs c (Some m) e h =
    let q = closed false 0 m bs e in
    let k : m ≡ length q.inside = let j = q.counted in omega arith in
    let i : take m bs ≡ q.inside = ap (λ n. take n bs) k ∙ ap (take (length q.inside)) q.parts ∙ take-append_seam q.inside (34 ∷ q.rest) in
    let f : text_inside at q.inside (first_bad false 0 q.inside) ≡ Ok c = rw i at h in
    rw q.parts (text_inside_by at q.inside q.rest c (first_bad false 0 q.inside) refl q.is f)

text_is : (at : ℕ) (bs : List ℕ) (c : Piece) → text at bs ≡ Ok c → IsFront c (34 ∷ bs)
unfolding text
text_is at bs c h = text_closed_is at bs c (closing_quote false 0 bs) refl h

-- ---- all pieces

comment_is : (bs : List ℕ) → IsFront (None, 1 + prefix_len is_in_comment bs) (59 ∷ bs)
comment_is bs =
    let n = prefix_len is_in_comment bs in
    let l : length (take n bs) ≡ n = length-prefix_len is_in_comment bs in
    record {
      passed = 59 ∷ take n bs;
      rest = drop n bs;
      parts = ap (λ (x : List ℕ). 59 ∷ x) (sym (take-append-drop n bs));
      counted = omega arith;
      is = inr (refl, run_passes is_in_comment bs, run_ends is_in_comment bs);
    }

-- for an atom's byte, the piece is the longest run
front_atom : (at b : ℕ) (bs : List ℕ) → is_blank b ≡ false → (b == 59) ≡ false → (b == 40) ≡ false → (b == 41) ≡ false → (b == 34) ≡ false → is_in_atom b ≡ true
    → front at b bs ≡ atom_piece at (take (1 + prefix_len is_in_atom bs) (b ∷ bs))
unfolding front
front_atom at b bs e1 e2 e3 e4 e5 e6 = rw (e1, e2, e3, e4, e5, e6) refl

run_more : (b : ℕ) (bs : List ℕ) → is_in_atom b ≡ true → prefix_len is_in_atom (b ∷ bs) ≡ 1 + prefix_len is_in_atom bs
run_more b bs e = rw e refl

front_by : (at b : ℕ) (bs : List ℕ) (c : Piece) (q1 q2 q3 q4 q5 q6 : Bool) → is_blank b ≡ q1 → (b == 59) ≡ q2 → (b == 40) ≡ q3 → (b == 41) ≡ q4 → (b == 34) ≡ q5 → is_in_atom b ≡ q6
    → front at b bs ≡ Ok c → IsFront c (b ∷ bs)
unfolding front
front_by at b bs c true q2 q3 q4 q5 q6 e1 e2 e3 e4 e5 e6 h =
    ok_same (λ c. IsFront c (b ∷ bs)) (None, 1) c (rw e1 at h) (record { passed = b ∷ []; rest = bs; parts = refl; counted = refl; is = inl (refl, e1) })
front_by at b bs c false true q3 q4 q5 q6 e1 e2 e3 e4 e5 e6 h =
    let is : b ≡ 59 = grind (arith, common_steps) in
    rw is (ok_same (λ c. IsFront c (59 ∷ bs)) (None, 1 + prefix_len is_in_comment bs) c (rw (e1, e2) at h) (comment_is bs))
front_by at b bs c false false true q4 q5 q6 e1 e2 e3 e4 e5 e6 h =
    let is : b ≡ 40 = grind (arith, common_steps) in
    rw is (ok_same (λ c. IsFront c (40 ∷ bs)) (Some k.Left, 1) c (rw (e1, e2, e3) at h) (record { rest = bs; parts = refl; counted = refl; lawful = refl; parted = refl }))
front_by at b bs c false false false true q5 q6 e1 e2 e3 e4 e5 e6 h =
    let is : b ≡ 41 = grind (arith, common_steps) in
    rw is (ok_same (λ c. IsFront c (41 ∷ bs)) (Some k.Right, 1) c (rw (e1, e2, e3, e4) at h) (record { rest = bs; parts = refl; counted = refl; lawful = refl; parted = refl }))
front_by at b bs c false false false false true q6 e1 e2 e3 e4 e5 e6 h =
    let is : b ≡ 34 = grind (arith, common_steps) in
    rw is (text_is at bs c (rw (e1, e2, e3, e4, e5) at h))
front_by at b bs c false false false false false true e1 e2 e3 e4 e5 e6 h =
    atom_piece_is at (b ∷ bs) c (ap (λ n. atom_piece at (take n (b ∷ bs))) (run_more b bs e6) ∙ sym (front_atom at b bs e1 e2 e3 e4 e5 e6) ∙ h)
front_by at b bs c false false false false false false e1 e2 e3 e4 e5 e6 h = absurd (let g = rw (e1, e2, e3, e4, e5, e6) at h in cc)

pub front_is : (at b : ℕ) (bs : List ℕ) (c : Piece) → front at b bs ≡ Ok c → IsFront c (b ∷ bs)
front_is at b bs c h = front_by at b bs c (is_blank b) (b == 59) (b == 40) (b == 41) (b == 34) (is_in_atom b) refl refl refl refl refl refl h
