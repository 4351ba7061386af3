-- What is lexed is written tokens, and what is written so is lexed.
use Rattle.std.proofs.Common.{◌≡◌, ℕ, zero, suc, ◌+◌, ◌-◌, ◌^◌, ◌<◌, ◌≤◌, Bool, true, false, inl, inr, List, [], ◌∷◌, ◌++◌, length, drop, Option, Some, None, Ok, Err, refl, sym, ap, ◌∙◌, subst, append_assoc, length-append, add-zero, arith}
use Rattle.std.specs.Prelude.{◌==◌, not, is_some, nat_le, pos, negsuc}
use Rattle.std.specs.List.{list_all}
use Rattle.std.specs.Fmt.{decimal}
use Rattle.std.proofs.lemmas.List.{append-nil}
use Rattle.std.proofs.Math.Seq.{drop-append_seam}
use Rattle.std.proofs.lemmas.Grind.{common_steps}
use Rattle.frp_base.proofs.Booleans.{both_true}
use Rattle.frp_lex.specs.declared.fault.Lex.{Lex}
use Rattle.frp_lex.specs.declared.token.Kind.{Kind}
use Rattle.frp_lex.specs.declared.token.Kind.TheVariants as k
use Rattle.frp_lex.specs.declared.token.Token.{Token}
use Rattle.frp_lex.specs.Gives.{LexOutcome, ◌>>=◌}
use Rattle.frp_lex.specs.Bytes.{is_blank, is_in_comment, is_in_atom, is_in_name, is_digit, is_letter, is_lower_case, is_upper}
use Rattle.frp_lex.specs.Atoms.{is_name, name_most}
use Rattle.frp_lex.specs.Tokens.{Piece, token_at, put, tokens_from, tokens, front}
use Rattle.frp_lex.specs.Spelling.{spelled, is_lawful_token}
use Rattle.frp_lex.specs.Written.{comment_after, IsGap, IsLastGap, is_parted, AreTokens, IsFaulty}
use Rattle.frp_lex.specs.Laws.{LexedIsWritten, FaultIsFirst}
use Rattle.frp_lex.proofs.Runs.{ends}
use Rattle.frp_lex.proofs.Reading.{behind, one_piece}
use Rattle.frp_lex.proofs.Spelled.{token_read}
use Rattle.frp_lex.proofs.Numbers.{digits_decimal, decimal_some}
use Rattle.frp_lex.proofs.Fronts.{name_in_atom, letter_in_atom, digit_in_atom, lower_in_name, upper_is_letter, kind_some}
use Rattle.frp_lex.proofs.Gaps.{passed_over}
use Rattle.frp_lex.proofs.Pieces.{IsPassed, front_is}

-- ---- what is written is lexed

some_of : (o : Option Bool) → is_some o ≡ true → (d : Bool) × (o ≡ Some d)
some_of (Some d) h = (d, refl)
some_of None h = absurd cc

all_passed : (d : Bool) (at : ℕ) (bs : List ℕ) → comment_after false bs ≡ Some d → tokens_from 0 at bs ≡ Ok []
all_passed d at bs h = ap (tokens_from 0 at) (sym (append-nil bs)) ∙ passed_over false d bs h [] at

-- what is read at last, behind tokens
no_more : (last : LexOutcome (List Token)) → last ≡ behind [] last
no_more (Ok more) = refl
no_more (Err f) = refl

one_before : (t : Token) (ts : List Token) (last : LexOutcome (List Token)) → (behind ts last >>= λ more. Ok (t ∷ more)) ≡ behind (t ∷ ts) last
one_before t ts (Ok more) = refl
one_before t ts (Err f) = refl

-- tokens are read, where what comes last is read so
tokens_read : (Last : ℕ → List ℕ → Type 0) (last : LexOutcome (List Token)) → ((at : ℕ) (bs : List ℕ) → Last at bs → tokens_from 0 at bs ≡ last)
    → (ts : List Token) (at : ℕ) (bs : List ℕ) → AreTokens Last at ts bs → tokens_from 0 at bs ≡ behind ts last
tokens_read Last last read [] at bs h = read at bs h ∙ no_more last
tokens_read Last last read (t ∷ ts) at bs h =
    let first : tokens_from 0 at bs ≡ tokens_from 0 t.at (spelled t.kind ++ h.rest) =
    ap (tokens_from 0 at) h.parts ∙ passed_over false false h.before h.gap (spelled t.kind ++ h.rest) at ∙ ap (λ n. tokens_from 0 n (spelled t.kind ++ h.rest)) (sym h.place) in
    let second = token_read t.kind h.lawful t.at h.rest h.parted in
    let third = tokens_read Last last read ts (t.at + length (spelled t.kind)) h.rest h.more in
    first ∙ second ∙ ap (λ (r : LexOutcome (List Token)). r >>= λ more. Ok (token_at t.at t.kind ∷ more)) third ∙ one_before t ts last

gap_read : (at : ℕ) (bs : List ℕ) → IsLastGap bs → tokens_from 0 at bs ≡ Ok []
gap_read at bs h = let d = some_of (comment_after false bs) h in all_passed d.0 at bs d.1

fault_read : (f : Lex) (at : ℕ) (bs : List ℕ) → IsFaulty f at bs → tokens_from 0 at bs ≡ Err f
fault_read f at bs h =
    ap (tokens_from 0 at) h.parts ∙ passed_over false false h.before h.gap (h.b ∷ h.rest) at
    ∙ ap (λ (r : LexOutcome Piece). r >>= λ piece. tokens_from (piece.1 - 1) (at + length h.before + 1) h.rest >>= λ more. Ok (put (at + length h.before) piece.0 more)) h.fault

-- ---- what is lexed is written

blank_no_semicolon : (b : ℕ) → is_blank b ≡ true → (b == 59) ≡ false
blank_no_semicolon b h = grind (arith, common_steps)

blank_gap : (b : ℕ) (bs : List ℕ) → is_blank b ≡ true → comment_after false (b ∷ bs) ≡ comment_after false bs
blank_gap b bs h = rw (blank_no_semicolon b h, h) refl

line_gap : (line rest : List ℕ) → list_all is_in_comment line ≡ true → comment_after true (line ++ rest) ≡ comment_after true rest
line_gap [] rest h = refl
line_gap (b ∷ line) rest h = let p = both_true (is_in_comment b) (list_all is_in_comment line) h in ap (λ c. comment_after c (line ++ rest)) p.0 ∙ line_gap line rest p.1

feed_gap : (b : ℕ) (rest : List ℕ) → not (is_in_comment b) ≡ true → comment_after true (b ∷ rest) ≡ comment_after false (b ∷ rest)
feed_gap b rest h = let e : b ≡ 10 = grind (arith, common_steps) in rw e refl

-- what is passed over, and then more, is a gap where that is one
passed_gap : (passed gap : List ℕ) (b : ℕ) → IsPassed passed (b ∷ gap) → comment_after false (passed ++ b ∷ gap) ≡ comment_after false (b ∷ gap)
passed_gap [] gap b h = absurd h
passed_gap (c ∷ passed) gap b (inl h) = rw h.0 (blank_gap c (b ∷ gap) h.1)
passed_gap (c ∷ passed) gap b (inr h) = rw h.0 (line_gap passed (b ∷ gap) h.1 ∙ feed_gap b gap h.2)

passed_last : (passed rest : List ℕ) → IsPassed passed rest → IsLastGap rest → IsLastGap (passed ++ rest)
passed_last [] rest h g = absurd h
passed_last (c ∷ passed) [] (inl h) g = rw h.0 (ap is_some (blank_gap c [] h.1))
passed_last (c ∷ passed) [] (inr h) g = rw h.0 (ap is_some (line_gap passed [] h.1))
passed_last (c ∷ passed) (b ∷ rest) h g = ap is_some (passed_gap (c ∷ passed) rest b h) ∙ g

front_ends : (before more : List ℕ) → ends is_in_comment (before ++ more) ≡ true → ends is_in_comment before ≡ true
front_ends [] more h = refl
front_ends (b ∷ before) more h = h

-- and so with what is passed over
front_passed : (passed before more : List ℕ) → IsPassed passed (before ++ more) → IsPassed passed before
front_passed [] before more h = h
front_passed (b ∷ passed) before more (inl h) = inl h
front_passed (b ∷ passed) before more (inr h) = inr (h.0, h.1, front_ends before more h.2)

-- no token begins with a line feed
abbrev NoFeed : List ℕ → Type 0
NoFeed bs = (rest : List ℕ) → ends is_in_comment (bs ++ rest) ≡ true → ⊥

atom_byte_no_feed : (b : ℕ) → is_in_atom b ≡ true → not (is_in_comment b) ≡ true → ⊥
atom_byte_no_feed b h e = grind (arith, common_steps)

atom_no_feed : (b : ℕ) (bs : List ℕ) → is_in_atom b ≡ true → NoFeed (b ∷ bs)
atom_no_feed b bs h = λ rest e. atom_byte_no_feed b h e

digits_no_feed : (ds : List ℕ) → list_all is_digit ds ≡ true → 0 < length ds → NoFeed ds
digits_no_feed [] h some = absurd (omega arith)
digits_no_feed (d ∷ ds) h some = atom_no_feed d ds (digit_in_atom d (both_true (is_digit d) (list_all is_digit ds) h).0)

no_feed : (kind : Kind) → is_lawful_token kind ≡ true → NoFeed (spelled kind)
no_feed k.Left h = λ rest e. absurd cc
no_feed k.Right h = λ rest e. absurd cc
no_feed (k.Name []) h = absurd cc
no_feed (k.Name (b ∷ t)) h =
    let p = both_true (is_name (b ∷ t)) (nat_le (length (b ∷ t)) name_most) h in
    atom_no_feed b t (name_in_atom b (lower_in_name b (both_true (is_lower_case b) (list_all is_in_name t) p.0).0))
no_feed (k.Word []) h = absurd cc
no_feed (k.Word (b ∷ t)) h = atom_no_feed b t (letter_in_atom b (upper_is_letter b (both_true (is_upper b) (list_all is_letter t) h).0))
no_feed (k.Num (pos n)) h = let lt : n < 2 ^ 63 = grind (arith, common_steps) in digits_no_feed (decimal n) (digits_decimal n (omega arith)) (decimal_some n (omega arith))
no_feed (k.Num (negsuc n)) h = λ rest e. absurd cc
no_feed (k.Str t) h = λ rest e. absurd cc

-- what is passed over and a gap are one, where no line feed follows
gap_more : (passed gap next : List ℕ) → (ends is_in_comment next ≡ true → ⊥) → IsPassed passed (gap ++ next) → IsGap gap → IsGap (passed ++ gap)
gap_more [] gap next apart h g = absurd h
gap_more (c ∷ passed) [] next apart (inl h) g = rw h.0 (blank_gap c [] h.1)
gap_more (c ∷ passed) [] next apart (inr h) g = absurd (apart h.2)
gap_more (c ∷ passed) (b ∷ gap) next apart h g = passed_gap (c ∷ passed) gap b (front_passed (c ∷ passed) (b ∷ gap) next h) ∙ g

-- a token before tokens
token_more : (Last : ℕ → List ℕ → Type 0) (at : ℕ) (kind : Kind) (bs : List ℕ) (ts : List Token) → is_lawful_token kind ≡ true → is_parted kind bs ≡ true
    → AreTokens Last (at + length (spelled kind)) ts bs → AreTokens Last at (token_at at kind ∷ ts) (spelled kind ++ bs)
token_more Last at kind bs ts l p h = record { before = []; rest = bs; parts = refl; gap = refl; place = sym (add-zero at); lawful = l; parted = p; more = h }

-- a blank or a comment before tokens
passed_more : (Last : ℕ → List ℕ → Type 0) → ((at : ℕ) (passed bs : List ℕ) → IsPassed passed bs → Last (at + length passed) bs → Last at (passed ++ bs))
    → (at : ℕ) (passed bs : List ℕ) (ts : List Token) → IsPassed passed bs → AreTokens Last (at + length passed) ts bs → AreTokens Last at ts (passed ++ bs)
passed_more Last last at passed bs [] h w = last at passed bs h w
passed_more Last last at passed bs (t ∷ ts) h w =
    let p : IsPassed passed (w.before ++ (spelled t.kind ++ w.rest)) = subst (IsPassed passed) w.parts h in
    record {
      before = passed ++ w.before;
      rest = w.rest;
      parts = ap (λ (x : List ℕ). passed ++ x) w.parts ∙ sym (append_assoc passed w.before (spelled t.kind ++ w.rest));
      gap = gap_more passed w.before (spelled t.kind ++ w.rest) (no_feed t.kind w.lawful w.rest) p w.gap;
      place = (let q = w.place in omega (arith, length-append passed w.before));
      lawful = w.lawful;
      parted = w.parted;
      more = w.more;
    }

last_gap_more : (at : ℕ) (passed bs : List ℕ) → IsPassed passed bs → IsLastGap bs → IsLastGap (passed ++ bs)
last_gap_more at passed bs h w = passed_last passed bs h w

blank_front : (at b : ℕ) (bs : List ℕ) → is_blank b ≡ true → front at b bs ≡ Ok (None, 1)
unfolding front
blank_front at b bs h = rw h refl

feed_is_blank : (b : ℕ) → not (is_in_comment b) ≡ true → is_blank b ≡ true
feed_is_blank b h = grind (arith, common_steps)

-- what is at fault begins with no line feed
fault_no_feed : (at b : ℕ) (bs : List ℕ) (f : Lex) → front at b bs ≡ Err f → ends is_in_comment (b ∷ bs) ≡ true → ⊥
fault_no_feed at b bs f e h = let g : ◌≡◌ {A = LexOutcome Piece} (Ok (None, 1)) (Err f) = sym (blank_front at b bs (feed_is_blank b h)) ∙ e in absurd cc

longer : (at : ℕ) (xs ys : List ℕ) → at + length (xs ++ ys) ≡ at + length xs + length ys
longer at xs ys = omega (arith, length-append xs ys)

-- a blank or a comment before a gap and what is at fault
fault_more : (f : Lex) (at : ℕ) (passed bs : List ℕ) → IsPassed passed bs → IsFaulty f (at + length passed) bs → IsFaulty f at (passed ++ bs)
fault_more f at passed bs h w = record {
  before = passed ++ w.before;
  b = w.b;
  rest = w.rest;
  parts = ap (λ (x : List ℕ). passed ++ x) w.parts ∙ sym (append_assoc passed w.before (w.b ∷ w.rest));
  gap = gap_more passed w.before (w.b ∷ w.rest) (fault_no_feed (at + length passed + length w.before) w.b w.rest f w.fault) (subst (IsPassed passed) w.parts h) w.gap;
  fault = ap (λ n. front n w.b w.rest) (longer at passed w.before) ∙ w.fault;
}

-- ---- what is read

-- the bytes, the first of which has this place, are read so
abbrev IsReadAs : LexOutcome (List Token) → ℕ → List ℕ → Type 0
IsReadAs (Ok ts) at bs = AreTokens (λ at rest. IsLastGap rest) at ts bs
IsReadAs (Err f) at bs = (ts : List Token) × AreTokens (IsFaulty f) at ts bs

token_before : (at : ℕ) (kind : Kind) (rest : List ℕ) (r : LexOutcome (List Token)) → is_lawful_token kind ≡ true → is_parted kind rest ≡ true → IsReadAs r (at + length (spelled kind)) rest
    → IsReadAs (r >>= λ more. Ok (put at (Some kind) more)) at (spelled kind ++ rest)
token_before at kind rest (Ok ts) l p w = token_more (λ at rest. IsLastGap rest) at kind rest ts l p w
token_before at kind rest (Err f) l p w = (token_at at kind ∷ w.0, token_more (IsFaulty f) at kind rest w.0 l p w.1)

passed_before : (at : ℕ) (passed rest : List ℕ) (r : LexOutcome (List Token)) → IsPassed passed rest → IsReadAs r (at + length passed) rest → IsReadAs (r >>= λ more. Ok (put at None more)) at (passed ++ rest)
passed_before at passed rest (Ok ts) h w = passed_more (λ at rest. IsLastGap rest) last_gap_more at passed rest ts h w
passed_before at passed rest (Err f) h w = (w.0, passed_more (IsFaulty f) (fault_more f) at passed rest w.0 h w.1)

-- what is left behind a front is shorter
shorter : (n : ℕ) (bs first rest : List ℕ) → bs ≡ first ++ rest → 1 ≤ length first → length bs ≤ suc n → length rest ≤ n
shorter n bs first rest p some le = let l : length bs ≡ length first + length rest = ap length p ∙ length-append first rest in omega arith

-- the front and what is read behind it
rest_read : (at b : ℕ) (bs first rest : List ℕ) (o : Option Kind) (n : ℕ) → front at b bs ≡ Ok (o, n) → b ∷ bs ≡ first ++ rest → n ≡ length first → 1 ≤ length first
    → tokens_from 0 at (b ∷ bs) ≡ (tokens_from 0 (at + length first) rest >>= λ more. Ok (put at o more))
rest_read at b bs first rest o n e p q some =
    let d : drop n (b ∷ bs) ≡ rest = ap (λ i. drop i (b ∷ bs)) q ∙ ap (drop (length first)) p ∙ drop-append_seam first rest in
    one_piece at (b ∷ bs) (o, n) (omega arith) (omega arith) e
    ∙ ap (λ x. tokens_from 0 (at + n) x >>= λ more. Ok (put at o more)) d
    ∙ ap (λ i. tokens_from 0 (at + i) rest >>= λ more. Ok (put at o more)) q

passed_some : (passed rest : List ℕ) → IsPassed passed rest → 1 ≤ length passed
passed_some [] rest h = absurd h
passed_some (b ∷ passed) rest h = omega arith

-- bytes that are no more than these many are read as they are
abbrev Reads : ℕ → Type 0
Reads n = (at : ℕ) (bs : List ℕ) → length bs ≤ n → IsReadAs (tokens_from 0 at bs) at bs

read_so : (r q : LexOutcome (List Token)) (at : ℕ) (bs cs : List ℕ) → r ≡ q → bs ≡ cs → IsReadAs q at cs → IsReadAs r at bs
read_so r q at bs cs e p w = subst (λ x. IsReadAs x at bs) (sym e) (subst (λ x. IsReadAs q at x) (sym p) w)

read_by : (n at b : ℕ) (bs : List ℕ) (r : LexOutcome Piece) → front at b bs ≡ r → length (b ∷ bs) ≤ suc n → Reads n → IsReadAs (tokens_from 0 at (b ∷ bs)) at (b ∷ bs)
read_by n at b bs (Err f) e le ih =
    let is : tokens_from 0 at (b ∷ bs) ≡ Err f = rw e refl in
    subst (λ x. IsReadAs x at (b ∷ bs)) (sym is) ([], record { before = []; b = b; rest = bs; parts = refl; gap = refl; fault = ap (λ n. front n b bs) (add-zero at) ∙ e })
read_by n at b bs (Ok (Some kind, m)) e le ih =
    let p = front_is at b bs (Some kind, m) e in
    let some = kind_some kind p.lawful in
    let w = ih (at + length (spelled kind)) p.rest (shorter n (b ∷ bs) (spelled kind) p.rest p.parts some le) in
    let more = tokens_from 0 (at + length (spelled kind)) p.rest in
    read_so (tokens_from 0 at (b ∷ bs)) (more >>= λ ts. Ok (put at (Some kind) ts)) at (b ∷ bs) (spelled kind ++ p.rest) (rest_read at b bs (spelled kind) p.rest (Some kind) m e p.parts p.counted some) p.parts
    (token_before at kind p.rest more p.lawful p.parted w)
read_by n at b bs (Ok (None, m)) e le ih =
    let p = front_is at b bs (None, m) e in
    let some = passed_some p.passed p.rest p.is in
    let w = ih (at + length p.passed) p.rest (shorter n (b ∷ bs) p.passed p.rest p.parts some le) in
    let more = tokens_from 0 (at + length p.passed) p.rest in
    read_so (tokens_from 0 at (b ∷ bs)) (more >>= λ ts. Ok (put at None ts)) at (b ∷ bs) (p.passed ++ p.rest) (rest_read at b bs p.passed p.rest None m e p.parts p.counted some) p.parts
    (passed_before at p.passed p.rest more p.is w)

reads : (n : ℕ) → Reads n
reads n at [] le = refl
reads zero at (b ∷ bs) le = absurd (omega arith)
reads (suc n) at (b ∷ bs) le = read_by n at b bs (front at b bs) refl le (reads n)

-- ---- the two laws

tokens_behind : (ts : List Token) → behind ts (Ok []) ≡ Ok ts
tokens_behind ts = ap Ok (append-nil ts)

pub lexed_is_written_lem : LexedIsWritten
unfolding tokens
lexed_is_written_lem bs ts = (
  λ h. subst (λ r. IsReadAs r 0 bs) h (reads (length bs) 0 bs (omega arith)),
  λ w. tokens_read (λ at rest. IsLastGap rest) (Ok []) gap_read ts 0 bs w ∙ tokens_behind ts,
)

pub fault_is_first_lem : FaultIsFirst
unfolding tokens
fault_is_first_lem bs f = (
  λ h. subst (λ r. IsReadAs r 0 bs) h (reads (length bs) 0 bs (omega arith)),
  λ w. tokens_read (IsFaulty f) (Err f) (fault_read f) w.0 0 bs w.1,
)
